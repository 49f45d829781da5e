-- A plain event is the same whatever becomes of the outputs.
use Rattle.std.proofs.Common.{◌≡◌, List, [], ◌∷◌, map, ap, refl}
use Rattle.rec_events.specs.declared.events.OutputEventKind.TheVariants.{
  SetupScriptFinished,
  TestAttemptFailedWillRetry,
  TestFinished,
}
use Rattle.rec_events.specs.declared.events.OutputEventKind.{OutputEventKind}
use Rattle.rec_events.specs.declared.events.TestEventKindSummary.TheVariants as event
use Rattle.rec_events.specs.declared.events.TestEventKindSummary.{TestEventKindSummary}
use Rattle.rec_events.specs.declared.events.TestEventSummary.{TestEventSummary}
use Rattle.rec_events.specs.declared.outputs.ChildExecutionOutputDescription.TheVariants.{
  Output,
  StartError,
}
use Rattle.rec_events.specs.declared.outputs.ChildExecutionOutputDescription.{
  ChildExecutionOutputDescription,
}
use Rattle.rec_events.specs.declared.script_statuses.SetupScriptExecuteStatus.{
  SetupScriptExecuteStatus,
}
use Rattle.rec_events.specs.declared.statuses.ExecuteStatus.{ExecuteStatus}
use Rattle.rec_events.specs.EventMaps.{execution_with, status_with, script_status_with}
use Rattle.rec_events.specs.EventMaps.{output_kind_with, kind_with, event_with}
use Rattle.rec_spans.specs.Plain.{plain, plain_kind, plain_output_kind}

abbrev bare : {X : Type 0} → X → Unit {0}
bare x = tt

module _ {S O P : Type 0} (T : Type 0) (f : O → P) where
  execution-plain : (e : ChildExecutionOutputDescription S O)
      → execution_with {T = Unit {0}} bare (execution_with {T = T} f e) ≡ execution_with bare e
  execution-plain (Output result output errors) = refl
  execution-plain (StartError message) = refl

  status-plain : (s : ExecuteStatus S O)
      → status_with {T = Unit {0}} bare (status_with {T = T} f s) ≡ status_with bare s
  status-plain s =
      ap (λ e. record (status_with {T = Unit {0}} bare s) { output = e }) (execution-plain s.output)

  all-plain : (s : List (ExecuteStatus S O))
      → map (status_with {T = Unit {0}} bare) (map (status_with {T = T} f) s)
      ≡ map (status_with bare) s
  all-plain [] = refl
  all-plain (x ∷ xs) = rw (status-plain x, all-plain xs) refl

  script_status-plain : (s : SetupScriptExecuteStatus S O)
      → script_status_with {T = Unit {0}} bare (script_status_with {T = T} f s)
      ≡ script_status_with bare s
  script_status-plain s =
      ap (λ e. record (script_status_with {T = Unit {0}} bare s) { output = e })
      (execution-plain s.output)

  output_kind-plain : (k : OutputEventKind S O)
      → plain_output_kind (output_kind_with {T = T} f k) ≡ plain_output_kind k
  output_kind-plain (SetupScriptFinished stress index total script program args no_capture status) =
      ap (SetupScriptFinished stress index total script program args no_capture)
      (script_status-plain status)
  output_kind-plain (TestAttemptFailedWillRetry stress test status delay failure running) =
      ap (λ s. TestAttemptFailedWillRetry stress test s delay failure running) (status-plain status)
  output_kind-plain (TestFinished stress test success failure store_success store_failure flaky
      statuses stats running) =
      ap (λ s. TestFinished stress test success failure store_success store_failure flaky
      (record { statuses = s; flaky_result = statuses.flaky_result }) stats running)
      (all-plain statuses.statuses)

  kind-plain : (k : TestEventKindSummary S O) → plain_kind (kind_with {T = T} f k) ≡ plain_kind k
  kind-plain (event.Core kind) = refl
  kind-plain (event.Output kind) = ap event.Output (output_kind-plain kind)

  pub event-plain : (e : TestEventSummary S O) → plain (event_with {T = T} f e) ≡ plain e
  event-plain e =
      ap (λ k. record { timestamp = e.timestamp; elapsed = e.elapsed; kind = k })
      (kind-plain e.kind)
