use Rattle.std.proofs.lemmas.Result.{on_ok_weaker}
use Rattle.rec_forms.proofs.Writing.{◌▸◌, all_written}
use Rattle.rec_trace_events.proofs.counters.TestCountsArgs.write.Goals as goal
use Rattle.rec_trace_events.proofs.WritableArgs.{results_written}

-- what each call wrote
pub returns-clause-written : goal.returns-clause-written
returns-clause-written c =
    c.end.ensures.written _ _
    (all_written c.begin.ensures (c.field.ensures ▸ c.field-2.ensures ▸ c.field-3.ensures))

pub returns-clause-known : goal.returns-clause-known
returns-clause-known c =
    on_ok_weaker c.end.result
    (λ all. let known = (c.field.ensures ▸ c.field-2.ensures ▸ c.field-3.ensures).known all in
    results_written _ known.1.1 known.1.0 known.0)
    c.end.ensures.goes
