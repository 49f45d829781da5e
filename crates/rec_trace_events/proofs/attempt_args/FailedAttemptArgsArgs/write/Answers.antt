use Rattle.std.proofs.lemmas.Result.{on_ok_weaker}
use Rattle.rec_forms.proofs.Writing.{◌▸◌, all_written}
use Rattle.rec_trace_events.proofs.attempt_args.FailedAttemptArgsArgs.write.Goals as goal
use Rattle.rec_trace_events.proofs.WritableAttempts.{failed_attempt_written}
use Rattle.rec_trace_events.specs.Args.{failed_attempt_args}

-- what each call wrote
pub returns-clause-written : goal.returns-clause-written
unfolding failed_attempt_args
returns-clause-written g c =
    c.end.ensures.written _ _
    (all_written c.begin-object.ensures (c.with_first_fields-object.ensures ▸
    c.with_delay-object.ensures ▸ c.in_ok-object.ensures ▸ c.with_last_fields-object.ensures))

pub returns-clause-known : goal.returns-clause-known
returns-clause-known g c =
    on_ok_weaker c.end.result (λ all. let known = (c.with_first_fields-object.ensures ▸
    c.with_delay-object.ensures ▸ c.in_ok-object.ensures ▸ c.with_last_fields-object.ensures).known
    all in failed_attempt_written _ _ _ _ _ known.0 known.1.0 known.1.1.0 known.1.1.1)
    c.end.ensures.goes
