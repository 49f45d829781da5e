use Rattle.std.proofs.Common.{◌≡◌, ◌++◌, map}
use Rattle.std.specs.Vec.Iter.{into_iter_items}
use Rattle.rec_session.proofs.finalize.without_errors.Given as goal
use Rattle.rec_session.specs.declared.finalize.RecordFinalizeWarning.TheVariants.{PruneError}

-- the errors that are left complete the warnings
abbrev pub invariant-loop-error : goal.invariant-loop-error
invariant-loop-error l =
    l.warnings.items ++ map PruneError (into_iter_items l.error-iterator)
    ≡ l.initial.warnings.items ++ map PruneError l.fn.answer.errors
