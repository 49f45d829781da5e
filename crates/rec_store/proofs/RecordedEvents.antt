-- What a well-formed event is recorded as is well-formed.
use Rattle.std.proofs.Common.{ℕ, ◌<◌, ◌^◌, List, [], ◌∷◌, length, map, Bool}
use Rattle.std.proofs.Common.{true, false, Option, Some, None, option_map}
use Rattle.std.proofs.Common.{IfSome, nat_le, sym, subst, if◌then◌else◌, ◌==◌}
use Rattle.std.proofs.lemmas.List.{length-map}
use Rattle.std.specs.List.{flat_map, AllByRecursion}
use Rattle.rec_events.specs.declared.events.OutputEventKind.TheVariants.{
  SetupScriptFinished,
  TestAttemptFailedWillRetry,
  TestFinished,
}
use Rattle.rec_events.specs.declared.events.OutputEventKind.{OutputEventKind}
use Rattle.rec_events.specs.declared.events.TestEventKindSummary.TheVariants as event
use Rattle.rec_events.specs.declared.events.TestEventKindSummary.{TestEventKindSummary}
use Rattle.rec_events.specs.declared.events.TestEventSummary.{TestEventSummary}
use Rattle.rec_events.specs.declared.output_names.OutputFileName.{OutputFileName}
use Rattle.rec_events.specs.declared.output_names.OutputKind.TheVariants as kind
use Rattle.rec_events.specs.declared.output_names.OutputKind.{OutputKind}
use Rattle.rec_events.specs.declared.outputs.ChildExecutionOutputDescription.TheVariants.{
  Output,
  StartError,
}
use Rattle.rec_events.specs.declared.outputs.ChildExecutionOutputDescription.{
  ChildExecutionOutputDescription,
}
use Rattle.rec_events.specs.declared.outputs.ChildOutputDescription.TheVariants as live
use Rattle.rec_events.specs.declared.outputs.ChildOutputDescription.{ChildOutputDescription}
use Rattle.rec_events.specs.declared.outputs.RecordingSpec.{RecordingSpec}
use Rattle.rec_events.specs.declared.outputs.ZipStoreOutput.TheVariants.{Empty, Full, Truncated}
use Rattle.rec_events.specs.declared.script_statuses.SetupScriptExecuteStatus.{
  SetupScriptExecuteStatus,
}
use Rattle.rec_events.specs.declared.statuses.ExecuteStatus.{ExecuteStatus}
use Rattle.rec_events.specs.EventMaps.{execution_with, status_with, script_status_with}
use Rattle.rec_events.specs.EventMaps.{output_kind_with, kind_with, event_with, of_execution}
use Rattle.rec_events.specs.EventMaps.{of_status, of_output_kind, of_kind, of_event}
use Rattle.rec_forms.specs.Outputs.{IsStoredOutput, IsStoredOutputs}
use Rattle.rec_codec.specs.Event.{LiveEvent}
use Rattle.rec_codec.specs.EventForms.{IsKind, IsEvent}
use Rattle.rec_codec.specs.Live.{IsLive}
use Rattle.rec_codec.specs.OutputKinds.{IsOutput}
use Rattle.rec_codec.specs.ScriptStatus.{IsScriptStatus}
use Rattle.rec_codec.specs.Status.{IsDescription, IsStatus}
use Rattle.rec_store.proofs.Held.{all_prefix, all_back}
use Rattle.rec_store.specs.EventOutputs.{file_name, stored_as, description_recorded, event_recorded}
use Rattle.rec_store.specs.Recordable.{captured_outputs, description_outputs}
use Rattle.rec_store.specs.Recordable.{HasLength, IsRecordable}

-- ---- where each output is replaced by one that is well-formed,
-- what is gathered of the outputs being as it should

module _ (T : Type 0) {S O Q A : Type 0} (P : O → Type 0) (R : Q → Type 0) (f : O → Q)
    (g : O → List A) (F : A → Type 0)
    (each : (o : O) → P o → AllByRecursion F (g o) → R (f o)) where
  execution_is : (x : ChildExecutionOutputDescription S O) → IsDescription P x
      → AllByRecursion F (of_execution g x) → IsDescription R (execution_with {T = T} f x)
  execution_is (Output result output errors) is all = (is.0, each output is.1 all, is.2)
  execution_is (StartError message) is all = is

  status_is : (s : ExecuteStatus S O) → IsStatus P s → AllByRecursion F (of_status g s)
      → IsStatus R (status_with {T = T} f s)
  status_is s is all =
      record { before = is.before; output = execution_is s.output is.output all; after = is.after }

  statuses_are : (l : List (ExecuteStatus S O)) → AllByRecursion (IsStatus P) l
      → AllByRecursion F (flat_map (of_status g) l)
      → AllByRecursion (IsStatus R) (map (status_with {T = T} f) l)
  statuses_are [] are all = tt
  statuses_are (s ∷ l) are all = (
    status_is s are.0 (all_prefix F (of_status g s) (flat_map (of_status g) l) all),
    statuses_are l are.1 (all_back F (of_status g s) (flat_map (of_status g) l) all),
  )

  script_status_is : (s : SetupScriptExecuteStatus S O) → IsScriptStatus P s
      → AllByRecursion F (of_execution g s.output)
      → IsScriptStatus R (script_status_with {T = T} f s)
  script_status_is s is all = record {
    output = execution_is s.output is.output all;
    result = is.result;
    start_time = is.start_time;
    time_taken = is.time_taken;
    env_map = is.env_map;
    error_summary = is.error_summary;
  }

  output_is : (k : OutputEventKind S O) → IsOutput P k → AllByRecursion F (of_output_kind g k)
      → IsOutput R (output_kind_with {T = T} f k)
  output_is (SetupScriptFinished index number total script program args no_capture status) is all =
      (is.0, is.1, is.2, is.3, is.4, is.5, script_status_is status is.6 all)
  output_is (TestAttemptFailedWillRetry index test status delay failure running) is all =
      (is.0, is.1, status_is status is.2 all, is.3, is.4)
  output_is (TestFinished index test success failure store_success store_failure flaky statuses
      stats running) is all = (
        is.0,
        is.1,
        record {
          statuses = statuses_are statuses.statuses is.2.statuses all;
          some =
              subst (λ (n : ℕ). 0 < n) (sym (length-map statuses.statuses (status_with {T = T} f)))
              is.2.some;
        },
        is.3,
        is.4,
      )

  kind_is : (k : TestEventKindSummary S O) → IsKind P k → AllByRecursion F (of_kind g k)
      → IsKind R (kind_with {T = T} f k)
  kind_is (event.Core kind) is all = is
  kind_is (event.Output kind) is all = output_is kind is all

  event_is : (e : TestEventSummary S O) → IsEvent P e → AllByRecursion F (of_event g e)
      → IsEvent R (event_with {T = T} f e)
  event_is e is all =
      record { timestamp = is.timestamp; elapsed = is.elapsed; kind = kind_is e.kind is.kind all }

-- ---- as outputs are recorded

module _ (number : List ℕ → ℕ) (m : ℕ) (in_range : (b : List ℕ) → number b < 2 ^ 64) where
  stored_is : (empty full : Bool) (f : OutputFileName) (size : ℕ) → f.number < 2 ^ 64
      → size < 2 ^ 64
      → IsStoredOutput (if empty then Empty else if full then Full f else Truncated f size)
  stored_is true full f size fits small = tt
  stored_is false true f size fits small = record { number = fits }
  stored_is false false f size fits small = (record { number = fits }, small)

  output_stored : (kind : OutputKind) (b : List ℕ) → HasLength b
      → IsStoredOutput (stored_as number m kind b)
  output_stored kind b small =
      stored_is (length b == 0) (nat_le (length b) m) (file_name number m kind b) (length b)
      (in_range _) small

  captured_stored : (kind : OutputKind) (o : Option (List ℕ))
      → AllByRecursion HasLength (captured_outputs o)
      → IfSome (option_map (stored_as number m kind) o) IsStoredOutput
  captured_stored kind None small = tt
  captured_stored kind (Some b) small = output_stored kind b small.0

  description_stored : (o : ChildOutputDescription) → IsLive o
      → AllByRecursion HasLength (description_outputs o)
      → IsStoredOutputs (description_recorded number m o)
  description_stored (live.Split out err) is small = (
    captured_stored kind.Stdout out
        (all_prefix HasLength (captured_outputs out) (captured_outputs err) small),
    captured_stored kind.Stderr err
        (all_back HasLength (captured_outputs out) (captured_outputs err) small),
  )
  description_stored (live.Combined both) is small = output_stored kind.Combined both small.0
  description_stored live.NotLoaded is small = absurd is

  -- is well-formed, and so its text is read as it
  pub event_recorded_is : (e : LiveEvent) → IsRecordable e
      → IsEvent IsStoredOutputs (event_recorded number m e)
  event_recorded_is e is =
      event_is RecordingSpec IsLive IsStoredOutputs (description_recorded number m)
      description_outputs HasLength description_stored e is.event is.outputs
