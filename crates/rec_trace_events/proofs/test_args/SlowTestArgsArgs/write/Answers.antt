use Rattle.std.proofs.lemmas.Result.{on_ok_weaker}
use Rattle.rec_forms.proofs.Writing.{◌▸◌, all_written}
use Rattle.rec_trace_events.proofs.test_args.SlowTestArgsArgs.write.Goals as goal
use Rattle.rec_trace_events.proofs.WritableArgs.{slow_test_written}
use Rattle.rec_trace_events.specs.Args.{slow_test_args}

-- what each call wrote
pub returns-clause-written : goal.returns-clause-written
unfolding slow_test_args
returns-clause-written c =
    c.end.ensures.written _ _ (all_written c.begin-object.ensures
    (c.field-object.ensures ▸ c.field-object-2.ensures ▸ c.field-object-3.ensures ▸
    c.with_stress_index-object.ensures ▸ c.field-object-4.ensures ▸ c.field-object-5.ensures))

pub returns-clause-known : goal.returns-clause-known
returns-clause-known c =
    on_ok_weaker c.end.result (λ all. let known =
    (c.field-object.ensures ▸ c.field-object-2.ensures ▸ c.field-object-3.ensures ▸
    c.with_stress_index-object.ensures ▸ c.field-object-4.ensures ▸ c.field-object-5.ensures).known
    all in slow_test_written _ _ _ _ _ known.1.0 known.1.1.1.1.0 known.0 known.1.1.0 known.1.1.1.0)
    c.end.ensures.goes
