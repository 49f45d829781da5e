use Rattle.std.proofs.lemmas.Result.{on_ok_weaker}
use Rattle.rec_forms.proofs.Writing.{◌▸◌, all_written}
use Rattle.rec_trace_events.proofs.run_args.RunEndArgsArgs.write.Goals as goal
use Rattle.rec_trace_events.proofs.WritableArgs.{run_end_written}
use Rattle.rec_trace_events.specs.Args.{run_end_args}

-- what each call wrote
pub returns-clause-written : goal.returns-clause-written
unfolding run_end_args
returns-clause-written c =
    c.end.ensures.written _ _
    (all_written c.begin-object.ensures (c.field-object.ensures ▸ c.with_not_seen-object.ensures ▸
    c.text-object.ensures ▸ c.field-object-2.ensures ▸ c.field-object-3.ensures))

pub returns-clause-known : goal.returns-clause-known
returns-clause-known c =
    on_ok_weaker c.end.result
    (λ all. let known = (c.field-object.ensures ▸ c.with_not_seen-object.ensures ▸
    c.text-object.ensures ▸ c.field-object-2.ensures ▸ c.field-object-3.ensures).known all in
    run_end_written _ _ _ _ _ known.0 known.1.1.1.1 known.1.1.0 known.1.1.1.0 known.1.0)
    c.end.ensures.goes
