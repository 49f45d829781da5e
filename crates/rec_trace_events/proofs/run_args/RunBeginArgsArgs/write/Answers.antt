use Rattle.std.proofs.lemmas.Result.{on_ok_weaker}
use Rattle.rec_forms.proofs.Writing.{◌▸◌, all_written}
use Rattle.rec_trace_events.proofs.run_args.RunBeginArgsArgs.write.Goals as goal
use Rattle.rec_trace_events.proofs.WritableArgs.{run_begin_written}
use Rattle.rec_trace_events.specs.Args.{run_begin_args}

-- what each call wrote
pub returns-clause-written : goal.returns-clause-written
unfolding run_begin_args
returns-clause-written c =
    c.end.ensures.written _ _ (all_written c.begin.ensures
    (c.field.ensures ▸ c.field-2.ensures ▸ c.text.ensures ▸ c.field-3.ensures ▸ c.optional.ensures))

pub returns-clause-known : goal.returns-clause-known
returns-clause-known c =
    on_ok_weaker c.end.result (λ all. let known = (c.field.ensures ▸ c.field-2.ensures ▸
    c.text.ensures ▸ c.field-3.ensures ▸ c.optional.ensures).known all in
    run_begin_written _ _ _ _ _ known.1.0 known.1.1.1.0 known.1.1.0 known.0 known.1.1.1.1)
    c.end.ensures.goes
