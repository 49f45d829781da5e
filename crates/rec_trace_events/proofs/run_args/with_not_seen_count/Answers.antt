use Rattle.std.specs.Prelude.{refl}
use Rattle.rec_forms.proofs.Writing.{object_written}
use Rattle.rec_trace_events.proofs.run_args.with_not_seen_count.Goals as goal
use Rattle.rec_trace_events.proofs.WritableArgs.{not_seen_written}

pub returns : goal.returns
returns c =
    object_written _ c.open.ensures.goes c.open.ensures.opened c.close.ensures.goes
    c.close.ensures.closed refl
    (not_seen_written c.args.not_seen.now)
    c.field.ensures
