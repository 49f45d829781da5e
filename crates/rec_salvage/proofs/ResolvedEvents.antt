-- Names in events stand for the same bytes in two stores that agree on them.
use Rattle.std.proofs.Common.{◌≡◌, ℕ, List, [], ◌∷◌, Option, Some, None}
use Rattle.std.proofs.Common.{option_map, unwrap_or, map, refl, sym, ap, ◌∙◌}
use Rattle.std.specs.List.{flat_map, AllByRecursion}
use Rattle.rec_container.specs.Container.{Entry, content_of}
use Rattle.rec_events.specs.declared.events.OutputEventKind.TheVariants.{
  SetupScriptFinished,
  TestAttemptFailedWillRetry,
  TestFinished,
}
use Rattle.rec_events.specs.declared.events.TestEventKindSummary.TheVariants as event
use Rattle.rec_events.specs.declared.events.TestEventKindSummary.{TestEventKindSummary}
use Rattle.rec_events.specs.declared.events.TestEventSummary.{TestEventSummary}
use Rattle.rec_events.specs.declared.outputs.ChildExecutionOutputDescription.TheVariants.{
  Output,
  StartError,
}
use Rattle.rec_events.specs.declared.outputs.ChildExecutionOutputDescription.{
  ChildExecutionOutputDescription,
}
use Rattle.rec_events.specs.declared.outputs.RecordingSpec.{RecordingSpec}
use Rattle.rec_events.specs.declared.outputs.ZipStoreOutput.TheVariants.{Empty, Full, Truncated}
use Rattle.rec_events.specs.declared.outputs.ZipStoreOutput.{ZipStoreOutput}
use Rattle.rec_events.specs.declared.outputs.ZipStoreOutputDescription.TheVariants as stored
use Rattle.rec_events.specs.declared.outputs.ZipStoreOutputDescription.{ZipStoreOutputDescription}
use Rattle.rec_events.specs.declared.script_statuses.SetupScriptExecuteStatus.{
  SetupScriptExecuteStatus,
}
use Rattle.rec_events.specs.declared.statuses.ExecuteStatus.{ExecuteStatus}
use Rattle.rec_events.specs.EventMaps.{execution_with, status_with, kind_with, event_with}
use Rattle.rec_codec.specs.Event.{RecordedEvent}
use Rattle.rec_store.proofs.EventMapLaws.{event_twice}
use Rattle.rec_store.proofs.Held.{all_prefix, all_back}
use Rattle.rec_store.specs.Kept.{KeptEvent, combined, description_paths, captured_paths}
use Rattle.rec_store.specs.Kept.{event_paths, event_resolved, full, output_paths}
use Rattle.rec_store.specs.Kept.{outputs_resolved, resolved, split, truncated}

-- ---- an event whose outputs are replaced by themselves

module _ {S O : Type 0} where
  execution_again : (e : ChildExecutionOutputDescription S O)
      → execution_with {T = S} (λ o. o) e ≡ e
  execution_again (Output result output errors) = refl
  execution_again (StartError message) = refl

  status_again : (s : ExecuteStatus S O) → status_with {T = S} (λ o. o) s ≡ s
  status_again s =
      ap (λ (o : ChildExecutionOutputDescription S O). record s { output = o })
      (execution_again s.output)

  statuses_again : (l : List (ExecuteStatus S O)) → map (status_with {T = S} (λ o. o)) l ≡ l
  statuses_again [] = refl
  statuses_again (s ∷ l) =
      ap (λ (x : ExecuteStatus S O). x ∷ map (status_with {T = S} (λ o. o)) l) (status_again s)
      ∙ ap (λ x. s ∷ x) (statuses_again l)

  kind_again : (k : TestEventKindSummary S O) → kind_with {T = S} (λ o. o) k ≡ k
  kind_again (event.Core kind) = refl
  kind_again (event.Output
      (SetupScriptFinished index number total script program args no_capture status)) =
      ap (λ (o : ChildExecutionOutputDescription S O). let s : SetupScriptExecuteStatus S O =
      record status { output = o } in
      event.Output (SetupScriptFinished index number total script program args no_capture s))
      (execution_again status.output)
  kind_again (event.Output (TestAttemptFailedWillRetry index test status delay failure running)) =
      ap (λ (s : ExecuteStatus S O).
      event.Output (TestAttemptFailedWillRetry index test s delay failure running))
      (status_again status)
  kind_again (event.Output (TestFinished index test success failure store_success store_failure
      flaky statuses stats running)) =
      ap (λ (l : List (ExecuteStatus S O)).
      event.Output (TestFinished index test success failure store_success store_failure flaky
      (record { statuses = l; flaky_result = statuses.flaky_result }) stats running))
      (statuses_again statuses.statuses)

  event_again : (e : TestEventSummary S O) → event_with {T = S} (λ o. o) e ≡ e
  event_again e = ap (λ (k : TestEventKindSummary S O). record e { kind = k }) (kind_again e.kind)

-- ---- two stores

module _ (es fs : List Entry) where
  -- they have the same under a path
  abbrev pub Agree : List ℕ → Type 0
  Agree path = content_of es path ≡ content_of fs path

  output_same : (o : ZipStoreOutput) → AllByRecursion Agree (output_paths o)
      → resolved es o ≡ resolved fs o
  output_same Empty h = refl
  output_same (Full name) h = ap (λ o. full (unwrap_or o [])) h.0
  output_same (Truncated name size) h = ap (λ o. truncated (unwrap_or o []) size) h.0

  captured_same : (o : Option ZipStoreOutput) → AllByRecursion Agree (captured_paths o)
      → option_map (resolved es) o ≡ option_map (resolved fs) o
  captured_same None h = refl
  captured_same (Some o) h = ap Some (output_same o h)

  outputs_same : (o : ZipStoreOutputDescription) → AllByRecursion Agree (description_paths o)
      → outputs_resolved es o ≡ outputs_resolved fs o
  outputs_same (stored.Split out err) h =
      ap (λ x. split x (option_map (resolved es) err))
      (captured_same out (all_prefix Agree (captured_paths out) (captured_paths err) h))
      ∙ ap (λ x. split (option_map (resolved fs) out) x)
      (captured_same err (all_back Agree (captured_paths out) (captured_paths err) h))
  outputs_same (stored.Combined both) h = ap combined (output_same both h)

  event_same : (e : RecordedEvent) → AllByRecursion Agree (event_paths e)
      → event_resolved es e ≡ event_resolved fs e
  event_same e h =
      ap (λ (x : RecordedEvent). let made : KeptEvent = event_with (outputs_resolved es) x in made)
      (sym (event_again e))
      ∙ event_twice RecordingSpec RecordingSpec (λ o. o) (outputs_resolved es) (outputs_resolved fs)
      description_paths Agree outputs_same e h

  -- so what events name in them is the same
  pub events_same : (events : List RecordedEvent)
      → AllByRecursion Agree (flat_map event_paths events)
      → map (event_resolved es) events ≡ map (event_resolved fs) events
  events_same [] h = refl
  events_same (e ∷ events) h =
      ap (λ x. x ∷ map (event_resolved es) events)
      (event_same e (all_prefix Agree (event_paths e) (flat_map event_paths events) h))
      ∙ ap (λ l. event_resolved fs e ∷ l)
      (events_same events (all_back Agree (event_paths e) (flat_map event_paths events) h))
