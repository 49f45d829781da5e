use Rattle.std.proofs.lemmas.Result.{on_ok_weaker}
use Rattle.rec_forms.proofs.Writing.{◌▸◌, all_written}
use Rattle.rec_trace_events.proofs.test_args.TestBeginArgsArgs.write.Goals as goal
use Rattle.rec_trace_events.proofs.WritableArgs.{test_begin_written}
use Rattle.rec_trace_events.specs.Args.{test_begin_args}

-- what each call wrote
pub returns-clause-written : goal.returns-clause-written
unfolding test_begin_args
returns-clause-written c =
    c.end.ensures.written _ _ (all_written c.begin-object.ensures
    (c.field-object.ensures ▸ c.with_command_line-object.ensures ▸ c.field-object-2.ensures))

pub returns-clause-known : goal.returns-clause-known
returns-clause-known c =
    on_ok_weaker c.end.result (λ all. let known =
    (c.field-object.ensures ▸ c.with_command_line-object.ensures ▸ c.field-object-2.ensures).known
    all in test_begin_written _ _ known.0 known.1.1 known.1.0) c.end.ensures.goes
