-- What is known after a history is what its events tell, by their positions.
use Rattle.std.proofs.Common.{◌≡◌, ◌+◌, ◌||◌, sym, ℕ, Bool, true, false, cond, List, [], ◌∷◌, ◌++◌}
use Rattle.std.proofs.Common.{length, filter, Option, Some, None, refl, ◌∙◌, ap, option_map, arith}
use Rattle.std.proofs.lemmas.List.Elements.{filter-append}
use Rattle.std.proofs.lemmas.List.{length-append}
use Rattle.std.specs.Option.{option_or, unwrap_or}
use Rattle.rec_events.specs.declared.events.CoreEventKind.TheVariants.{
  RunStarted,
  StressSubRunStarted,
  SetupScriptStarted,
  SetupScriptSlow,
  TestStarted,
  TestSlow,
  TestRetryStarted,
  TestSkipped,
  RunBeginCancel,
  RunPaused,
  RunContinued,
  StressSubRunFinished,
  RunFinished,
}
use Rattle.rec_events.specs.declared.events.OutputEventKind.TheVariants.{
  SetupScriptFinished,
  TestAttemptFailedWillRetry,
  TestFinished,
}
use Rattle.rec_events.specs.declared.events.TestEventKindSummary.TheVariants.{Core, Output}
use Rattle.rec_events.specs.declared.groups.TestGroup.{TestGroup}
use Rattle.rec_events.specs.declared.instances.OwnedTestInstanceId.{OwnedTestInstanceId}
use Rattle.rec_events.specs.Tests.{test_eq}
use Rattle.rec_forms.specs.Shape.{only}
use Rattle.rec_spans.specs.Acts.{act_of}
use Rattle.rec_spans.specs.declared.settings.ChromeTraceGroupBy.{ChromeTraceGroupBy}
use Rattle.rec_spans.specs.History.{after}
use Rattle.rec_spans.specs.Kinds.{history, next_input}
use Rattle.rec_spans.specs.Past.{flow_after, next_flow}
use Rattle.rec_spans.specs.Plain.{PlainEvent, PlainKind}
use Rattle.rec_trace.proofs.BinaryNumbers.{number-by_places}
use Rattle.rec_trace.proofs.LastTold.{last_or, of_each_history}
use Rattle.rec_trace.proofs.PastOfHistory.{past-push}
use Rattle.rec_trace.proofs.Pushes.{known-push}
use Rattle.rec_trace.specs.Histories.{known_of}
use Rattle.rec_trace.specs.Known.{Known, arrow_after, group_after}
use Rattle.rec_trace.specs.Known.{names, of_test, row_to_name, run_of}
use Rattle.rec_trace.specs.Places.{IsKnownByPlaces, arrow_told, attempt_fails}
use Rattle.rec_trace.specs.Places.{failed_attempts, group_told, kind_arrow_told}
use Rattle.rec_trace.specs.Places.{kind_group_told, name_told, run_told, running_told}

-- ---- single values

or_told : {X : Type 0} (now before : Option X)
    → option_or now before ≡ unwrap_or (option_map Some now) before
or_told None before = refl
or_told (Some x) before = refl

of_test_told : {X : Type 0} (other test : OwnedTestInstanceId) (now : Option X)
    (before : OwnedTestInstanceId → Option X)
    → of_test other now before test ≡ unwrap_or (only (test_eq other test) now) (before test)
of_test_told other test now before = go (test_eq other test)
  where
    go : (b : Bool) → cond b now (before test) ≡ unwrap_or (only b now) (before test)
    go true = refl
    go false = refl

named_told : (asked before : Bool) → (asked || before) ≡ unwrap_or (only asked true) before
named_told true before = refl
named_told false before = refl

-- ---- the groups and the arrows of tests

group-told : (kind : PlainKind) (before : OwnedTestInstanceId → Option TestGroup)
    (test : OwnedTestInstanceId)
    → group_after kind before test ≡ unwrap_or (kind_group_told test kind) (before test)
group-told (Core (RunStarted run_id profile_name cli_args stress_condition)) before test = refl
group-told (Core (RunFinished run_id start_time elapsed run_stats outstanding)) before test = refl
group-told (Core (RunBeginCancel scripts running reason)) before test = refl
group-told (Core (RunPaused scripts running)) before test = refl
group-told (Core (RunContinued scripts running)) before test = refl
group-told
    (Core (TestStarted stress_index other slot_assignment current_stats running command_line))
    before test =
    of_test_told other test (Some slot_assignment.test_group) before
group-told
    (Core (TestRetryStarted stress_index other slot_assignment retry_data running command_line))
    before test =
    of_test_told other test (Some slot_assignment.test_group) before
group-told (Core (TestSlow stress_index other retry_data elapsed will_terminate)) before test = refl
group-told (Core (TestSkipped stress_index other reason skipped)) before test = refl
group-told (Core (SetupScriptStarted stress_index index total script_id program args no_capture))
    before test =
    refl
group-told (Core (SetupScriptSlow stress_index script_id program args elapsed will_terminate))
    before test =
    refl
group-told (Core (StressSubRunStarted progress)) before test = refl
group-told (Core (StressSubRunFinished progress sub_elapsed sub_stats)) before test = refl
group-told (Output (SetupScriptFinished stress index total script program args no_capture status))
    before test =
    refl
group-told (Output (TestAttemptFailedWillRetry stress other status delay failure running))
    before test =
    of_test_told other test None before
group-told (Output (TestFinished stress other success failure store_success store_failure flaky
    statuses current_stats running)) before test = of_test_told other test None before

arrow-told : (flow : ℕ) (kind : PlainKind) (before : OwnedTestInstanceId → Option ℕ)
    (test : OwnedTestInstanceId)
    → arrow_after flow kind before test ≡ unwrap_or (kind_arrow_told test flow kind) (before test)
arrow-told flow (Core (RunStarted run_id profile_name cli_args stress_condition)) before test = refl
arrow-told flow (Core (RunFinished run_id start_time elapsed run_stats outstanding)) before test =
    refl
arrow-told flow (Core (RunBeginCancel scripts running reason)) before test = refl
arrow-told flow (Core (RunPaused scripts running)) before test = refl
arrow-told flow (Core (RunContinued scripts running)) before test = refl
arrow-told flow
    (Core (TestStarted stress_index other slot_assignment current_stats running command_line))
    before test =
    refl
arrow-told flow
    (Core (TestRetryStarted stress_index other slot_assignment retry_data running command_line))
    before test =
    of_test_told other test None before
arrow-told flow (Core (TestSlow stress_index other retry_data elapsed will_terminate)) before test =
    refl
arrow-told flow (Core (TestSkipped stress_index other reason skipped)) before test = refl
arrow-told flow
    (Core (SetupScriptStarted stress_index index total script_id program args no_capture))
    before test =
    refl
arrow-told flow (Core (SetupScriptSlow stress_index script_id program args elapsed will_terminate))
    before test =
    refl
arrow-told flow (Core (StressSubRunStarted progress)) before test = refl
arrow-told flow (Core (StressSubRunFinished progress sub_elapsed sub_stats)) before test = refl
arrow-told flow
    (Output (SetupScriptFinished stress index total script program args no_capture status))
    before test =
    refl
arrow-told flow (Output (TestAttemptFailedWillRetry stress other status delay failure running))
    before test =
    of_test_told other test (Some flow) before
arrow-told flow (Output (TestFinished stress other success failure store_success store_failure flaky
    statuses current_stats running)) before test = refl

-- ---- the number of the next arrow

flow-told : (kind : PlainKind) (before : ℕ)
    → flow_after (act_of kind) before ≡ before + length (cond (attempt_fails kind) (kind ∷ []) [])
flow-told (Core (RunStarted run_id profile_name cli_args stress_condition)) before = omega arith
flow-told (Core (RunFinished run_id start_time elapsed run_stats outstanding)) before = omega arith
flow-told (Core (RunBeginCancel scripts running reason)) before = omega arith
flow-told (Core (RunPaused scripts running)) before = omega arith
flow-told (Core (RunContinued scripts running)) before = omega arith
flow-told (Core (TestStarted stress_index other slot_assignment current_stats running command_line))
    before =
    omega arith
flow-told
    (Core (TestRetryStarted stress_index other slot_assignment retry_data running command_line))
    before =
    omega arith
flow-told (Core (TestSlow stress_index other retry_data elapsed will_terminate)) before =
    omega arith
flow-told (Core (TestSkipped stress_index other reason skipped)) before = omega arith
flow-told (Core (SetupScriptStarted stress_index index total script_id program args no_capture))
    before =
    omega arith
flow-told (Core (SetupScriptSlow stress_index script_id program args elapsed will_terminate))
    before =
    omega arith
flow-told (Core (StressSubRunStarted progress)) before = omega arith
flow-told (Core (StressSubRunFinished progress sub_elapsed sub_stats)) before = omega arith
flow-told (Output (SetupScriptFinished stress index total script program args no_capture status))
    before =
    omega arith
flow-told (Output (TestAttemptFailedWillRetry stress other status delay failure running)) before =
    omega arith
flow-told (Output (TestFinished stress other success failure store_success store_failure flaky
    statuses current_stats running)) before = omega arith

one_fails : (event : PlainEvent) (kind : PlainKind) (b : Bool)
    → length (cond b (event ∷ []) []) ≡ length (cond b (kind ∷ []) [])
one_fails event kind true = refl
one_fails event kind false = refl

-- the number of the next arrow is how many attempts failed
pub next_flow-told : (g : ChromeTraceGroupBy) (events : List PlainEvent)
    → next_flow (after [] (history g events)) ≡ failed_attempts events
next_flow-told g =
    of_each_history (λ events. next_flow (after [] (history g events)) ≡ failed_attempts events)
    refl each
  where
    each : (events : List PlainEvent) (event : PlainEvent)
        → next_flow (after [] (history g events)) ≡ failed_attempts events
        → next_flow (after [] (history g (events ++ event ∷ [])))
        ≡ failed_attempts (events ++ event ∷ [])
    each events event h =
        let fails = λ (e : PlainEvent). attempt_fails e.kind in
        ap next_flow (past-push g events event)
        ∙ ap (flow_after (act_of event.kind)) h
        ∙ flow-told event.kind (failed_attempts events)
        ∙ ap (λ (n : ℕ). failed_attempts events + n)
        (sym (one_fails event event.kind (attempt_fails event.kind)))
        ∙ sym (ap length (filter-append fails events (event ∷ []))
        ∙ length-append (filter fails events) (filter fails (event ∷ [])))

-- ---- all of it

pub known-by_places : (g : ChromeTraceGroupBy) (events : List PlainEvent)
    → IsKnownByPlaces g events (known_of g events)
known-by_places g events = record {
  running =
      last_or running_told 0 (λ es. (known_of g es).running) refl
      (λ es e. ap (λ (k : Known). k.running) (known-push g es e)) events;
  last_run =
      last_or run_told None (λ es. (known_of g es).last_run) refl
      (λ es e. ap (λ (k : Known). k.last_run) (known-push g es e)
      ∙ or_told (run_of e.kind) (known_of g es).last_run)
      events;
  group = λ test.
      last_or (group_told test) None (λ es. (known_of g es).group test) refl
      (λ es e. ap (λ (k : Known). k.group test) (known-push g es e)
      ∙ group-told e.kind (known_of g es).group test)
      events;
  arrow = λ test.
      last_or (arrow_told test) None (λ es. (known_of g es).arrow test) refl
      (λ es e.
      ap (λ (k : Known). k.arrow test) (known-push g es e)
      ∙ arrow-told (next_flow (after [] (history g es))) e.kind (known_of g es).arrow test
      ∙ ap (λ (n : ℕ). unwrap_or (kind_arrow_told test n e.kind) ((known_of g es).arrow test))
      (next_flow-told g es))
      events;
  is_named = λ row.
      last_or (name_told g row) false (λ es. (known_of g es).is_named row) refl
      (λ es e.
      ap (λ (k : Known). k.is_named row) (known-push g es e)
      ∙ named_told (names (row_to_name (next_input g (history g es) e)) row)
      ((known_of g es).is_named row))
      events;
  number = λ b. number-by_places g b events;
}
