use Rattle.std.proofs.lemmas.Result.{on_ok_weaker}
use Rattle.rec_forms.proofs.Writing.{◌▸◌, all_written}
use Rattle.rec_trace_events.proofs.script_args.ScriptEndArgsArgs.write.Goals as goal
use Rattle.rec_trace_events.proofs.WritableAttempts.{script_end_written}
use Rattle.rec_trace_events.specs.Args.{script_end_args}

-- what each call wrote
pub returns-clause-written : goal.returns-clause-written
unfolding script_end_args
returns-clause-written g c =
    c.end.ensures.written _ _ (all_written c.begin-object.ensures
    (c.with_summary-object.ensures ▸ c.field-object.ensures ▸ c.field-object-2.ensures ▸
    c.field-object-3.ensures ▸ c.with_stress_index-object.ensures ▸ c.field-object-4.ensures))

pub returns-clause-known : goal.returns-clause-known
returns-clause-known g c =
    on_ok_weaker c.end.result (λ all. let known =
    (c.with_summary-object.ensures ▸ c.field-object.ensures ▸ c.field-object-2.ensures ▸
    c.field-object-3.ensures ▸ c.with_stress_index-object.ensures ▸ c.field-object-4.ensures).known
    all in
    script_end_written _ _ _ known.1.1.1.0 known.1.1.1.1.1 known.1.1.0 known.1.1.1.1.0 known.0)
    c.end.ensures.goes
