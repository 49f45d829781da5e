-- An event that is read is well-formed, and has its outputs.
use Rattle.std.proofs.Common.{◌≡◌, ℕ, Bool, true, true≢false, List, [], ◌∷◌, Option}
use Rattle.std.proofs.Common.{Some, IfSome, Result, Ok, Err, IfOk, refl, sym, ◌∙◌, subst}
use Rattle.std.specs.List.{AllByRecursion}
use Rattle.serde_json.specs.Data.{Data}
use Rattle.serde_json.specs.Read.{read}
use Rattle.rec_events.specs.declared.events.OutputEventKind.TheVariants.{
  SetupScriptFinished,
  TestAttemptFailedWillRetry,
  TestFinished,
}
use Rattle.rec_events.specs.declared.events.OutputEventKind.{OutputEventKind}
use Rattle.rec_events.specs.declared.events.TestEventKindSummary.TheVariants.{Core, Output}
use Rattle.rec_events.specs.declared.events.TestEventKindSummary.{TestEventKindSummary}
use Rattle.rec_events.specs.declared.outputs.ChildExecutionOutputDescription.TheVariants
    as description
use Rattle.rec_events.specs.declared.outputs.ChildExecutionOutputDescription.{
  ChildExecutionOutputDescription,
}
use Rattle.rec_events.specs.declared.outputs.LiveSpec.{LiveSpec}
use Rattle.rec_events.specs.declared.outputs.RecordingSpec.{RecordingSpec}
use Rattle.rec_events.specs.declared.statuses.ExecuteStatus.{ExecuteStatus}
use Rattle.rec_forms.specs.declared.errors.FromValueError.{FromValueError}
use Rattle.rec_forms.specs.Gives.{Gives}
use Rattle.rec_forms.specs.GivesWellFormed.{Holds, GivesWellFormed}
use Rattle.rec_forms.specs.OutputLaws.{stored_outputs_well_formed}
use Rattle.rec_forms.specs.Outputs.{stored_outputs_form, IsStoredOutputs}
use Rattle.rec_forms.specs.TextForm.{text_form}
use Rattle.rec_forms.specs.WellFormedLaws.{anything, and_then_holds}
use Rattle.rec_codec.specs.declared.errors.ToValueError.TheVariants.{NotLoaded, OutOfMemory}
use Rattle.rec_codec.specs.declared.errors.ToValueError.{ToValueError}
use Rattle.rec_codec.specs.Event.{LiveEvent, RecordedEvent, live_event_of, recorded_event_of}
use Rattle.rec_codec.specs.EventFormLaws.{event_well_formed}
use Rattle.rec_codec.specs.EventForms.{kind_loaded, event_form, IsKind, IsEvent}
use Rattle.rec_codec.specs.Live.{is_loaded, live_form, IsLive}
use Rattle.rec_codec.specs.LiveLaws.{live_well_formed, live_loaded}
use Rattle.rec_codec.specs.OutputKinds.{output_loaded, IsOutput}
use Rattle.rec_codec.specs.Status.{description_loaded, IsDescription, status_loaded, IsStatus}
use Rattle.rec_codec.specs.Writes.{every, FailsUnloaded}

-- ---- what is read

held : {T : Type 0} (P : T → Type 0) (o : Option T) (x : T) → o ≡ Some x → Holds P o → P x
held P o x e h = let Q : Option _ → Type 0 = λ v. IfSome v P in subst Q e h.is

-- where a reader gives what a form gives, it is well-formed
pub given_well_formed : {T : Type 0} (P : T → Type 0) (form : Data → Option T)
    → GivesWellFormed P form → (d : Data) (r : Result T FromValueError) → Gives r (form d)
    → IfOk r P
given_well_formed P form gives d (Ok x) e = held P (form d) x e (gives.each d)
given_well_formed P form gives d (Err e) h = tt

-- a text is read as what is well-formed
text_well_formed : {T : Type 0} (P : T → Type 0) (form : Data → Option T) → GivesWellFormed P form
    → (text : List ℕ) (x : T) → text_form form text ≡ Some x → P x
text_well_formed P form gives text x e =
    held P (text_form form text) x e
    (and_then_holds form (read text) (anything (read text)) (λ d _. gives.each d))

pub live_form_well_formed : GivesWellFormed {T = LiveEvent} (IsEvent IsLive) (event_form live_form)
live_form_well_formed = event_well_formed {S = LiveSpec} IsLive live_form live_well_formed

pub recorded_form_well_formed : GivesWellFormed {T = RecordedEvent} (IsEvent IsStoredOutputs)
    (event_form stored_outputs_form)
recorded_form_well_formed =
    event_well_formed {S = RecordingSpec}
    IsStoredOutputs stored_outputs_form stored_outputs_well_formed

pub live_event_well_formed : (text : List ℕ) (e : LiveEvent) → live_event_of text ≡ Some e
    → IsEvent IsLive e
unfolding live_event_of
live_event_well_formed =
    text_well_formed (IsEvent IsLive) (event_form live_form) live_form_well_formed

pub recorded_event_well_formed : (text : List ℕ) (e : RecordedEvent)
    → recorded_event_of text ≡ Some e → IsEvent IsStoredOutputs e
unfolding recorded_event_of
recorded_event_well_formed =
    text_well_formed (IsEvent IsStoredOutputs) (event_form stored_outputs_form)
    recorded_form_well_formed

-- ---- what is well-formed was loaded

module _ {S O : Type 0} (P : O → Type 0) (loaded : O → Bool)
    (loads : (o : O) → P o → loaded o ≡ true) where
  description_loads : (d : ChildExecutionOutputDescription S O) → IsDescription P d
      → description_loaded loaded d ≡ true
  description_loads (description.Output result output errors) h = loads output h.1
  description_loads (description.StartError message) h = refl

  all_load : (ss : List (ExecuteStatus S O)) → AllByRecursion (IsStatus P) ss
      → every (status_loaded loaded) ss ≡ true
  all_load [] h = refl
  all_load (s ∷ ss) h = rw (description_loads s.output h.0.output, all_load ss h.1)

  output_loads : (k : OutputEventKind S O) → IsOutput P k → output_loaded loaded k ≡ true
  output_loads
      (SetupScriptFinished stress_index index total script_id program args no_capture run_status)
      h =
      description_loads run_status.output h.6.output
  output_loads (TestAttemptFailedWillRetry stress_index test_instance run_status delay
      failure_output running) h = description_loads run_status.output h.2.output
  output_loads (TestFinished stress_index test_instance success_output failure_output store_success
      store_failure flaky run_statuses current_stats running)
      h =
      all_load run_statuses.statuses h.2.statuses

  kind_loads : (k : TestEventKindSummary S O) → IsKind P k → kind_loaded loaded k ≡ true
  kind_loads (Core kind) h = refl
  kind_loads (Output kind) h = output_loads kind h

-- what is read of a session has each output loaded
pub live_value_loaded : (v : Data) (e : LiveEvent) → event_form live_form v ≡ Some e
    → kind_loaded is_loaded e.kind ≡ true
live_value_loaded v e is =
    kind_loads IsLive is_loaded live_loaded e.kind
    (held (IsEvent IsLive) (event_form live_form v) e is (live_form_well_formed.each v)).kind

pub live_event_loaded : (text : List ℕ) (e : LiveEvent) → live_event_of text ≡ Some e
    → kind_loaded is_loaded e.kind ≡ true
live_event_loaded text e is =
    kind_loads IsLive is_loaded live_loaded e.kind (live_event_well_formed text e is).kind

-- ---- the names of files are always loaded

module _ {S O : Type 0} (loaded : O → Bool) (loads : (o : O) → loaded o ≡ true) where
  description_always : (d : ChildExecutionOutputDescription S O)
      → description_loaded loaded d ≡ true
  description_always (description.Output result output errors) = loads output
  description_always (description.StartError message) = refl

  all_always : (ss : List (ExecuteStatus S O)) → every (status_loaded loaded) ss ≡ true
  all_always [] = refl
  all_always (s ∷ ss) = rw (description_always s.output, all_always ss)

  output_always : (k : OutputEventKind S O) → output_loaded loaded k ≡ true
  output_always
      (SetupScriptFinished stress_index index total script_id program args no_capture run_status) =
      description_always run_status.output
  output_always (TestAttemptFailedWillRetry stress_index test_instance run_status delay
      failure_output running) =
      description_always run_status.output
  output_always (TestFinished stress_index test_instance success_output failure_output store_success
      store_failure flaky run_statuses current_stats running) =
      all_always run_statuses.statuses

  -- where each output is loaded whatever it is, so are those of each kind
  pub kind_always : (k : TestEventKindSummary S O) → kind_loaded loaded k ≡ true
  kind_always (Core kind) = refl
  kind_always (Output kind) = output_always kind

-- so where each output is loaded, a writer never answers that one isn't
pub never_unloaded : {S O : Type 0} (e : ToValueError) (k : TestEventKindSummary S O)
    → e ≡ NotLoaded → FailsUnloaded e (kind_loaded (λ _. true) k) → ⊥
never_unloaded NotLoaded k is h = true≢false (sym (kind_always (λ _. true) (λ _. refl) k) ∙ h)
never_unloaded OutOfMemory k is h = absurd cc
