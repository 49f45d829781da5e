use Rattle.std.proofs.lemmas.Result.{on_ok_weaker}
use Rattle.std.specs.Prelude.{option_copied}
use Rattle.rec_forms.proofs.Writing.{◌▸◌, all_written}
use Rattle.rec_trace_events.proofs.attempt_args.LastAttemptArgsArgs.write.Goals as goal
use Rattle.rec_trace_events.proofs.WritableAttempts.{last_attempt_written}
use Rattle.rec_trace_events.specs.AttemptEnds.{group_or_global}

-- what each call wrote
pub returns-clause-written : goal.returns-clause-written
returns-clause-written g c =
    c.end.ensures.written _ _
    (all_written c.begin-object.ensures (c.with_first_fields-object.ensures ▸ c.in_ok-object.ensures
    ▸ c.with_last_fields-object.ensures))

pub returns-clause-known : goal.returns-clause-known
returns-clause-known g c =
    let args = c.args.self.now in
    on_ok_weaker
    c.end.result
    (λ all.
    let known = (c.with_first_fields-object.ensures ▸ c.in_ok-object.ensures ▸
    c.with_last_fields-object.ensures).known
    all in
    last_attempt_written args.test.now args.stress_index.now
    (group_or_global (option_copied args.test_group)) args.last.now args.flaky known.0 known.1.0
    known.1.1)
    c.end.ensures.goes
