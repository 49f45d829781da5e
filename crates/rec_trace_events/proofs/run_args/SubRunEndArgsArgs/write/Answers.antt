use Rattle.std.proofs.lemmas.Result.{on_ok_weaker}
use Rattle.rec_forms.proofs.Writing.{◌▸◌, all_written}
use Rattle.rec_trace_events.proofs.run_args.SubRunEndArgsArgs.write.Goals as goal
use Rattle.rec_trace_events.proofs.WritableArgs.{sub_run_end_written}
use Rattle.rec_trace_events.specs.Args.{sub_run_end_args}

-- what each call wrote
pub returns-clause-written : goal.returns-clause-written
unfolding sub_run_end_args
returns-clause-written c =
    c.end.ensures.written _ _
    (all_written c.begin.ensures (c.field.ensures ▸ c.field-2.ensures ▸ c.field-3.ensures))

pub returns-clause-known : goal.returns-clause-known
returns-clause-known c =
    on_ok_weaker c.end.result
    (λ all. let known = (c.field.ensures ▸ c.field-2.ensures ▸ c.field-3.ensures).known all in
    sub_run_end_written _ _ _ known.0 known.1.1 known.1.0)
    c.end.ensures.goes
