use Rattle.std.proofs.Common.{sym}
use Rattle.std.proofs.lemmas.Result.{on_ok_weaker}
use Rattle.rec_forms.proofs.Writing.{◌▸◌, all_written}
use Rattle.rec_trace_events.proofs.instants.MarkArgsArgs.write.Goals as goal
use Rattle.rec_trace_events.proofs.WritableArgs.{mark_written}
use Rattle.rec_trace_events.specs.TraceEvents.{mark_args}

-- what each call wrote
pub returns-clause-written : goal.returns-clause-written
unfolding mark_args
returns-clause-written c =
    rw (sym c.reason-reason.ensures) (c.end.ensures.written _ _
    (all_written c.begin.ensures (c.optional.ensures ▸ c.field.ensures ▸ c.field-2.ensures)))

pub returns-clause-known : goal.returns-clause-known
returns-clause-known c =
    on_ok_weaker c.end.result
    (λ all. let known = (c.optional.ensures ▸ c.field.ensures ▸ c.field-2.ensures).known all in
    mark_written _ _ known.1.0 known.1.1)
    c.end.ensures.goes
