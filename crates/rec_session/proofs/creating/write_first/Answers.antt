use Rattle.std.proofs.Common.{[], ◌∷◌}
use Rattle.rec_store.specs.Store.{build_scope_entry, rerun_entry}
use Rattle.rec_session.proofs.creating.write_first.Goals as goal
use Rattle.rec_session.proofs.Stored.{both_ok, both_err}

pub returns-in_ok-written-in-Some-clause-ok : goal.returns-in_ok-written-in-Some-clause-ok
returns-in_ok-written-in-Some-clause-ok g c =
    rw c.in-Some.is
    (both_ok _ _ c.args.recorder.now c.write_scope-written.new.recorder c.write_rerun_info.new.self
    (build_scope_entry c.args.build_scope ∷ []) (rerun_entry c.in-Some.rerun_info ∷ [])
    c.write_rerun_info.result
    c.in_ok-written-in-Some.ensures.ok c.write_rerun_info.ensures.ok)

pub returns-in_ok-written-in-Some-clause-err : goal.returns-in_ok-written-in-Some-clause-err
returns-in_ok-written-in-Some-clause-err g c =
    rw c.in-Some.is
    (both_err _ _ c.args.recorder.now c.write_scope-written.new.recorder c.write_rerun_info.new.self
    (build_scope_entry c.args.build_scope ∷ []) (rerun_entry c.in-Some.rerun_info ∷ [])
    c.write_rerun_info.result
    c.in_ok-written-in-Some.ensures.ok c.write_rerun_info.ensures.err)
