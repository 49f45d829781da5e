-- Laws of what is made and gathered of an event's outputs.
use Rattle.std.proofs.Common.{◌≡◌, List, [], ◌∷◌, ◌++◌, map, refl, sym, ap, ◌∙◌}
use Rattle.std.proofs.lemmas.List.{map-append}
use Rattle.std.specs.List.{flat_map, AllByRecursion}
use Rattle.rec_events.specs.declared.events.OutputEventKind.TheVariants.{
  SetupScriptFinished,
  TestAttemptFailedWillRetry,
  TestFinished,
}
use Rattle.rec_events.specs.declared.events.TestEventKindSummary.TheVariants as event
use Rattle.rec_events.specs.declared.events.TestEventKindSummary.{TestEventKindSummary}
use Rattle.rec_events.specs.declared.events.TestEventSummary.{TestEventSummary}
use Rattle.rec_events.specs.declared.outputs.ChildExecutionOutputDescription.TheVariants.{
  Output,
  StartError,
}
use Rattle.rec_events.specs.declared.outputs.ChildExecutionOutputDescription.{
  ChildExecutionOutputDescription,
}
use Rattle.rec_events.specs.declared.script_statuses.SetupScriptExecuteStatus.{
  SetupScriptExecuteStatus,
}
use Rattle.rec_events.specs.declared.statuses.ExecuteStatus.{ExecuteStatus}
use Rattle.rec_events.specs.EventMaps.{execution_with, status_with, script_status_with, kind_with}
use Rattle.rec_events.specs.EventMaps.{event_with, of_execution, of_status, of_kind, of_event}
use Rattle.rec_store.proofs.Held.{all_append, all_prefix, all_back}

-- ---- what holds of all that is gathered of each output

module _ {S O A : Type 0} (P : A → Type 0) (f : O → List A)
    (each : (o : O) → AllByRecursion P (f o)) where
  all_of_execution : (e : ChildExecutionOutputDescription S O) → AllByRecursion P (of_execution f e)
  all_of_execution (Output result output errors) = each output
  all_of_execution (StartError message) = tt

  all_of_statuses : (l : List (ExecuteStatus S O)) → AllByRecursion P (flat_map (of_status f) l)
  all_of_statuses [] = tt
  all_of_statuses (s ∷ l) =
      all_append P (of_status f s) (flat_map (of_status f) l) (all_of_execution s.output)
      (all_of_statuses l)

  all_of_kind : (k : TestEventKindSummary S O) → AllByRecursion P (of_kind f k)
  all_of_kind (event.Core kind) = tt
  all_of_kind (event.Output
      (SetupScriptFinished index number total script program args no_capture status)) =
      all_of_execution status.output
  all_of_kind (event.Output (TestAttemptFailedWillRetry index test status delay failure running)) =
      all_of_execution status.output
  all_of_kind (event.Output (TestFinished index test success failure store_success store_failure
      flaky statuses stats running)) =
      all_of_statuses statuses.statuses

  -- holds of all that is gathered
  pub all_of_event : (e : TestEventSummary S O) → AllByRecursion P (of_event f e)
  all_of_event e = all_of_kind e.kind

-- ---- what is gathered after each output was replaced

module _ (T : Type 0) {S O P A B : Type 0} (replaced : O → P) (gathered : P → List B)
    (before : O → List A) (h : A → B)
    (each : (o : O) → gathered (replaced o) ≡ map h (before o)) where
  of_execution-with : (e : ChildExecutionOutputDescription S O)
      → of_execution {S = T} gathered (execution_with replaced e) ≡ map h (of_execution before e)
  of_execution-with (Output result output errors) = each output
  of_execution-with (StartError message) = refl

  of_statuses-with : (l : List (ExecuteStatus S O))
      → flat_map (of_status {S = T} gathered) (map (status_with replaced) l)
      ≡ map h (flat_map (of_status before) l)
  of_statuses-with [] = refl
  of_statuses-with (s ∷ l) =
      ap (λ prefix. prefix ++ flat_map (of_status {S = T} gathered) (map (status_with replaced) l))
      (of_execution-with s.output)
      ∙ ap (λ rest. map h (of_status before s) ++ rest) (of_statuses-with l)
      ∙ sym (map-append h (of_status before s) (flat_map (of_status before) l))

  of_kind-with : (k : TestEventKindSummary S O)
      → of_kind {S = T} gathered (kind_with replaced k) ≡ map h (of_kind before k)
  of_kind-with (event.Core kind) = refl
  of_kind-with (event.Output
      (SetupScriptFinished index number total script program args no_capture status)) =
      of_execution-with status.output
  of_kind-with (event.Output (TestAttemptFailedWillRetry index test status delay failure running)) =
      of_execution-with status.output
  of_kind-with (event.Output (TestFinished index test success failure store_success store_failure
      flaky statuses stats running)) =
      of_statuses-with statuses.statuses

  -- is what h makes of what was gathered before
  pub of_event-with : (e : TestEventSummary S O)
      → of_event {S = T} gathered (event_with replaced e) ≡ map h (of_event before e)
  of_event-with e = of_kind-with e.kind

-- ---- outputs replaced twice, where a fact holds of all that is gathered of them

module _ (T U : Type 0) {S O P Q A : Type 0} (first : O → P) (then : P → Q) (once : O → Q)
    (gathered : O → List A) (F : A → Type 0)
    (each : (o : O) → AllByRecursion F (gathered o) → then (first o) ≡ once o) where
  execution_twice : (e : ChildExecutionOutputDescription S O)
      → AllByRecursion F (of_execution gathered e)
      → execution_with then (execution_with {T = T} first e) ≡ execution_with {T = U} once e
  execution_twice (Output result output errors) h =
      let rebuilt : Q → ChildExecutionOutputDescription U Q = λ o. Output result o errors in
      ap rebuilt (each output h)
  execution_twice (StartError message) h = refl

  status_twice : (s : ExecuteStatus S O) → AllByRecursion F (of_status gathered s)
      → status_with then (status_with {T = T} first s) ≡ status_with {T = U} once s
  status_twice s h =
      ap (λ (o : ChildExecutionOutputDescription U Q).
      record (status_with {T = U} once s) { output = o })
      (execution_twice s.output h)

  statuses_twice : (l : List (ExecuteStatus S O))
      → AllByRecursion F (flat_map (of_status gathered) l)
      → map (status_with then) (map (status_with {T = T} first) l)
      ≡ map (status_with {T = U} once) l
  statuses_twice [] h = refl
  statuses_twice (s ∷ l) h =
      ap (λ x. x ∷ map (status_with {T = U} then) (map (status_with {T = T} first) l))
      (status_twice s (all_prefix F (of_status gathered s) (flat_map (of_status gathered) l) h))
      ∙ ap (λ rest. status_with {T = U} once s ∷ rest)
      (statuses_twice l (all_back F (of_status gathered s) (flat_map (of_status gathered) l) h))

  script_status_twice : (s : SetupScriptExecuteStatus S O)
      → AllByRecursion F (of_execution gathered s.output)
      → script_status_with then (script_status_with {T = T} first s)
      ≡ script_status_with {T = U} once s
  script_status_twice s h =
      ap (λ (o : ChildExecutionOutputDescription U Q).
      record (script_status_with {T = U} once s) { output = o })
      (execution_twice s.output h)

  kind_twice : (k : TestEventKindSummary S O) → AllByRecursion F (of_kind gathered k)
      → kind_with then (kind_with {T = T} first k) ≡ kind_with {T = U} once k
  kind_twice (event.Core kind) h = refl
  kind_twice
      (event.Output (SetupScriptFinished index number total script program args no_capture status))
      h =
      ap (λ (s : SetupScriptExecuteStatus U Q).
      event.Output (SetupScriptFinished index number total script program args no_capture s))
      (script_status_twice status h)
  kind_twice (event.Output (TestAttemptFailedWillRetry index test status delay failure running)) h =
      ap (λ (s : ExecuteStatus U Q).
      event.Output (TestAttemptFailedWillRetry index test s delay failure running))
      (status_twice status h)
  kind_twice (event.Output (TestFinished index test success failure store_success store_failure
      flaky statuses stats running))
      h =
      ap (λ (l : List (ExecuteStatus U Q)).
      event.Output (TestFinished index test success failure store_success store_failure flaky
      (record { statuses = l; flaky_result = statuses.flaky_result }) stats running))
      (statuses_twice statuses.statuses h)

  -- are as if replaced once
  pub event_twice : (e : TestEventSummary S O) → AllByRecursion F (of_event gathered e)
      → event_with then (event_with {T = T} first e) ≡ event_with {T = U} once e
  event_twice e h =
      ap (λ (k : TestEventKindSummary U Q).
      record { timestamp = e.timestamp; elapsed = e.elapsed; kind = k })
      (kind_twice e.kind h)
