use Rattle.std.proofs.Common.{not, sym, ap, ◌∙◌}
use Rattle.rec_trace_events.proofs.members.with_delay.Goals as goal
use Rattle.rec_trace_events.proofs.OnlyWritten.{only_written}
use Rattle.rec_trace_events.proofs.WritableArgs.{duration_written}

pub returns-else-is_zero : goal.returns-else-is_zero
returns-else-is_zero c =
    only_written (ap not (sym c.is_zero.ensures ∙ c.if-is_zero.false))
    (duration_written c.args.delay.now) c.field.ensures
