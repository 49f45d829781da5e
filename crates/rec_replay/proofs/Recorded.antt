-- What was recorded of a live event is replayed as what is kept of it.
use Rattle.std.proofs.Common.{◌≡◌, arith, eqb-true, ℕ, List, [], ◌∷◌, ◌++◌, length, nat_le}
use Rattle.std.proofs.Common.{Bool, true, false, ◌||◌, Option, Some, None, option_map}
use Rattle.std.proofs.Common.{unwrap_or, refl, sym, ap, subst, ◌∙◌, if◌then◌else◌, ◌==◌}
use Rattle.std.proofs.Math.Dec.{leb-zero}
use Rattle.std.specs.Borrow.{Bor}
use Rattle.std.specs.List.{AllByRecursion}
use Rattle.std.specs.Option.{option_or}
use Rattle.rec_container.proofs.Contents.{content_of-found}
use Rattle.rec_container.specs.Container.{Entry, content_of}
use Rattle.rec_container.specs.Writing.{entry_named}
use Rattle.rec_events.specs.declared.events.CoreEventKind.{CoreEventKind}
use Rattle.rec_events.specs.declared.events.OutputEventKind.{OutputEventKind}
use Rattle.rec_events.specs.declared.events.TestEventKindSummary.TheVariants.{Core, Output}
use Rattle.rec_events.specs.declared.events.TestEventKindSummary.{TestEventKindSummary}
use Rattle.rec_events.specs.declared.events.TestEventSummary.{TestEventSummary}
use Rattle.rec_events.specs.declared.live_events.TestEvent.{TestEvent}
use Rattle.rec_events.specs.declared.live_events.TestEventKind.TheVariants as live
use Rattle.rec_events.specs.declared.live_events.TestEventKind.{TestEventKind}
use Rattle.rec_events.specs.declared.live_stress.StressCondition.TheVariants as condition
use Rattle.rec_events.specs.declared.live_stress.StressCondition.{StressCondition}
use Rattle.rec_events.specs.declared.live_stress.StressCount.TheVariants as count
use Rattle.rec_events.specs.declared.live_stress.StressIndex.{StressIndex}
use Rattle.rec_events.specs.declared.output_names.OutputFileName.{OutputFileName}
use Rattle.rec_events.specs.declared.output_names.OutputKind.TheVariants as kind
use Rattle.rec_events.specs.declared.output_names.OutputKind.{OutputKind}
use Rattle.rec_events.specs.declared.outputs.ChildOutputDescription.TheVariants as output
use Rattle.rec_events.specs.declared.outputs.ChildOutputDescription.{ChildOutputDescription}
use Rattle.rec_events.specs.declared.outputs.LiveSpec.{LiveSpec}
use Rattle.rec_events.specs.declared.outputs.RecordingSpec.{RecordingSpec}
use Rattle.rec_events.specs.declared.outputs.ZipStoreOutput.TheVariants.{Empty, Full, Truncated}
use Rattle.rec_events.specs.EventMaps.{event_with, kind_with, output_kind_with}
use Rattle.rec_events.specs.EventMaps.{status_with, statuses_with, script_status_with}
use Rattle.rec_events.specs.LiveEvents.{core_kind, output_kind, kind_summary, event_summary}
use Rattle.rec_events.specs.LiveStress.{condition_summary, index_summary}
use Rattle.rec_events.specs.TestLists.{Tests}
use Rattle.rec_store.proofs.Clashing.{clash_none}
use Rattle.rec_store.proofs.EventMapLaws.{event_twice}
use Rattle.rec_store.proofs.Held.{all_prefix, all_back, all_held, all_weaker}
use Rattle.rec_store.specs.Cut.{cut}
use Rattle.rec_store.specs.EventOutputs.{Live, file_name, output_entries, captured_entries}
use Rattle.rec_store.specs.EventOutputs.{description_entries, event_entries, stored_as}
use Rattle.rec_store.specs.EventOutputs.{description_recorded, event_recorded}
use Rattle.rec_store.specs.Kept.{bytes_under, IsHeld}
use Rattle.rec_store.specs.Logging.{Logs}
use Rattle.rec_store.specs.OutputPaths.{output_path}
use Rattle.rec_store.specs.Recording.{Recording}
use Rattle.rec_replay.specs.declared.output_load.LoadOutput.TheVariants.{Load}
use Rattle.rec_replay.specs.LiveKept.{outputs_cut, live_kind_kept, live_event_kept}
use Rattle.rec_replay.specs.Loading.{output_loaded, description_loaded}
use Rattle.rec_replay.specs.Replaying.{condition_replayed, index_replayed, core_replayed}
use Rattle.rec_replay.specs.Replaying.{output_live, kind_live, event_live, replayed}

-- ---- outputs

whole : (b : List ℕ) (s : Bool) (t : List ℕ) → s ≡ true → (if s then b else t) ≡ b
whole b true t h = refl
whole b false t h = absurd cc

module _ (number : List ℕ → ℕ) (m : ℕ) (es : List Entry) where
  bytes_held : (f : OutputFileName) (content : List ℕ)
      → content_of es (output_path f) ≡ Some content → bytes_under es f ≡ content
  bytes_held f content h = ap (λ o. unwrap_or o []) h

  -- a cut of nothing is nothing
  cut_of_none : (b : List ℕ) → (length b == 0) ≡ true → [] ≡ cut b m
  cut_of_none [] h = sym (whole [] (nat_le (length {A = ℕ} []) m) _ (leb-zero m))
  cut_of_none (x ∷ b) h = let zero = eqb-true (length (x ∷ b)) 0 h in absurd (omega arith)

  loaded_unless : (z l : Bool) (f : OutputFileName) (content : List ℕ) (n : ℕ)
      → (z ≡ true → [] ≡ content)
      → AllByRecursion (IsHeld es) (if z then [] else entry_named (output_path f) content ∷ [])
      → output_loaded es (if z then Empty else if l then Full f else Truncated f n) ≡ content
  loaded_unless true l f content n none h = none refl
  loaded_unless false true f content n none h = bytes_held f content h.0
  loaded_unless false false f content n none h = bytes_held f content h.0

  loaded_output : (kind : OutputKind) (b : List ℕ)
      → AllByRecursion (IsHeld es) (output_entries number m kind b)
      → output_loaded es (stored_as number m kind b) ≡ cut b m
  loaded_output kind b h =
      loaded_unless (length b == 0) (nat_le (length b) m) (file_name number m kind b) (cut b m)
      (length b) (cut_of_none b) h

  loaded_captured : (kind : OutputKind) (o : Option (List ℕ))
      → AllByRecursion (IsHeld es) (captured_entries number m kind o)
      → option_map (output_loaded es) (option_map (stored_as number m kind) o)
      ≡ option_map (λ b. cut b m) o
  loaded_captured kind None h = refl
  loaded_captured kind (Some b) h = ap Some (loaded_output kind b h)

  loaded_description : (o : ChildOutputDescription)
      → AllByRecursion (IsHeld es) (description_entries number m o)
      → description_loaded Load es (description_recorded number m o) ≡ outputs_cut m o
  loaded_description (output.Split out err) h =
      ap (λ o. output.Split o
      (option_map (output_loaded es) (option_map (stored_as number m kind.Stderr) err)))
      (loaded_captured kind.Stdout out (all_prefix (IsHeld es)
      (captured_entries number m kind.Stdout out) (captured_entries number m kind.Stderr err) h))
      ∙ ap (λ o. output.Split (option_map (λ b. cut b m) out) o)
      (loaded_captured kind.Stderr err (all_back (IsHeld es)
      (captured_entries number m kind.Stdout out) (captured_entries number m kind.Stderr err) h))
  loaded_description (output.Combined both) h =
      ap output.Combined (loaded_output kind.Combined both h)
  loaded_description output.NotLoaded h = refl

  -- where the store holds the entries of an event,
  -- what it names there is what is kept of its outputs
  loaded_event : (e : Live TestEventSummary) → AllByRecursion (IsHeld es) (event_entries number m e)
      → event_with {T = LiveSpec} (description_loaded Load es) (event_recorded number m e)
      ≡ event_with {T = LiveSpec} (outputs_cut m) e
  loaded_event e h =
      event_twice RecordingSpec LiveSpec (description_recorded number m)
      (description_loaded Load es) (outputs_cut m) (description_entries number m) (IsHeld es)
      loaded_description e h

-- ---- all else

index_back : (i : Option StressIndex) → index_replayed (index_summary i) ≡ i
index_back None = refl
index_back (Some i) = refl

condition_back : (c : StressCondition) → condition_replayed (condition_summary c) ≡ c
condition_back (condition.Count (count.Count n)) = refl
condition_back (condition.Count count.Infinite) = refl
condition_back (condition.Duration time) = refl

conditions_back : (c : Option StressCondition)
    → option_map condition_replayed (option_map condition_summary c) ≡ c
conditions_back None = refl
conditions_back (Some c) = ap Some (condition_back c)

pub the_same : {A : Type 0} (x y : A) → Some x ≡ Some y → x ≡ y
the_same x y h = cc

module _ (m : ℕ) (tests : Bor Tests) where
  core_back : (k : TestEventKind) (c : CoreEventKind) → core_kind k ≡ Some c
      → core_replayed tests c ≡ live_kind_kept m tests k
  core_back (live.RunStarted list run profile args condition) c h =
      ap (core_replayed tests) (sym (the_same _ _ h)) ∙ ap
      (λ condition. live.RunStarted tests run profile args condition) (conditions_back condition)
  core_back (live.StressSubRunStarted progress) c h =
      ap (core_replayed tests) (sym (the_same _ _ h))
  core_back (live.SetupScriptStarted stress index total script program args no_capture) c h =
      ap (core_replayed tests) (sym (the_same _ _ h))
      ∙ ap (λ stress. live.SetupScriptStarted stress index total script program args no_capture)
      (index_back stress)
  core_back (live.SetupScriptSlow stress script program args elapsed terminates) c h =
      ap (core_replayed tests) (sym (the_same _ _ h))
      ∙ ap (λ stress. live.SetupScriptSlow stress script program args elapsed terminates)
      (index_back stress)
  core_back (live.SetupScriptFinished stress index total script program args no_capture
      store_success store_failure status) c h = absurd cc
  core_back (live.TestStarted stress test slot stats running command) c h =
      ap (core_replayed tests) (sym (the_same _ _ h))
      ∙ ap (λ stress. live.TestStarted stress test slot stats running command) (index_back stress)
  core_back (live.TestSlow stress test retry elapsed terminates) c h =
      ap (core_replayed tests) (sym (the_same _ _ h))
      ∙ ap (λ stress. live.TestSlow stress test retry elapsed terminates) (index_back stress)
  core_back (live.TestAttemptFailedWillRetry stress test status delay failure running) c h =
      absurd cc
  core_back (live.TestRetryStarted stress test slot retry running command) c h =
      ap (core_replayed tests) (sym (the_same _ _ h)) ∙ ap
      (λ stress. live.TestRetryStarted stress test slot retry running command) (index_back stress)
  core_back (live.TestFinished stress test success failure store_success store_failure flaky
      statuses stats running) c h = absurd cc
  core_back (live.TestSkipped stress test reason report) c h =
      ap (core_replayed tests) (sym (the_same _ _ h))
      ∙ ap (λ stress. live.TestSkipped stress test reason report) (index_back stress)
  core_back (live.RunBeginCancel scripts running stats) c h =
      ap (core_replayed tests) (sym (the_same _ _ h))
  core_back (live.RunPaused scripts running) c h = ap (core_replayed tests) (sym (the_same _ _ h))
  core_back (live.RunContinued scripts running) c h =
      ap (core_replayed tests) (sym (the_same _ _ h))
  core_back (live.StressSubRunFinished progress elapsed stats) c h =
      ap (core_replayed tests) (sym (the_same _ _ h))
  core_back (live.RunFinished run start elapsed stats not_seen) c h =
      ap (core_replayed tests) (sym (the_same _ _ h))
  core_back live.InfoStarted c h = absurd cc
  core_back live.InfoResponse c h = absurd cc
  core_back live.InfoFinished c h = absurd cc
  core_back live.InputEnter c h = absurd cc
  core_back live.RunBeginKill c h = absurd cc

  output_back : (k : TestEventKind) (o : Live OutputEventKind) → output_kind k ≡ Some o
      → output_live (output_kind_with {T = LiveSpec} (outputs_cut m) o) ≡ live_kind_kept m tests k
  output_back (live.RunStarted list run profile args condition) o h = absurd cc
  output_back (live.StressSubRunStarted progress) o h = absurd cc
  output_back (live.SetupScriptStarted stress index total script program args no_capture) o h =
      absurd cc
  output_back (live.SetupScriptSlow stress script program args elapsed terminates) o h = absurd cc
  output_back (live.SetupScriptFinished stress index total script program args no_capture
      store_success store_failure status)
      o h =
      ap (λ o. output_live (output_kind_with {T = LiveSpec} (outputs_cut m) o))
      (sym (the_same _ _ h))
      ∙ ap (λ stress. live.SetupScriptFinished stress index total script program args no_capture
      false false (script_status_with (outputs_cut m) status))
      (index_back stress)
  output_back (live.TestStarted stress test slot stats running command) o h = absurd cc
  output_back (live.TestSlow stress test retry elapsed terminates) o h = absurd cc
  output_back (live.TestAttemptFailedWillRetry stress test status delay failure running) o h =
      ap (λ o. output_live (output_kind_with {T = LiveSpec} (outputs_cut m) o))
      (sym (the_same _ _ h))
      ∙ ap (λ stress. live.TestAttemptFailedWillRetry stress test
      (status_with (outputs_cut m) status) delay failure running)
      (index_back stress)
  output_back (live.TestRetryStarted stress test slot retry running command) o h = absurd cc
  output_back (live.TestFinished stress test success failure store_success store_failure flaky
      statuses stats running)
      o h =
      ap (λ o. output_live (output_kind_with {T = LiveSpec} (outputs_cut m) o))
      (sym (the_same _ _ h))
      ∙ ap (λ stress. live.TestFinished stress test success failure store_success store_failure
      flaky (statuses_with (outputs_cut m) statuses) stats running)
      (index_back stress)
  output_back (live.TestSkipped stress test reason report) o h = absurd cc
  output_back (live.RunBeginCancel scripts running stats) o h = absurd cc
  output_back (live.RunPaused scripts running) o h = absurd cc
  output_back (live.RunContinued scripts running) o h = absurd cc
  output_back (live.StressSubRunFinished progress elapsed stats) o h = absurd cc
  output_back (live.RunFinished run start elapsed stats not_seen) o h = absurd cc
  output_back live.InfoStarted o h = absurd cc
  output_back live.InfoResponse o h = absurd cc
  output_back live.InfoFinished o h = absurd cc
  output_back live.InputEnter o h = absurd cc
  output_back live.RunBeginKill o h = absurd cc

  kind_back : (k : TestEventKind) (s : Live TestEventKindSummary) → kind_summary k ≡ Some s
      → kind_live tests (kind_with {T = LiveSpec} (outputs_cut m) s) ≡ live_kind_kept m tests k
  kind_back k s h = by (core_kind k) (output_kind k) refl refl h
    where
      by : (c : Option CoreEventKind) (o : Option (Live OutputEventKind)) → core_kind k ≡ c
          → output_kind k ≡ o → option_or (option_map Core c) (option_map Output o) ≡ Some s
          → kind_live tests (kind_with {T = LiveSpec} (outputs_cut m) s) ≡ live_kind_kept m tests k
      by (Some c) o p q h =
          ap (λ s. kind_live tests (kind_with {T = LiveSpec} (outputs_cut m) s))
          (sym (the_same _ _ h))
          ∙ core_back k c p
      by None (Some o) p q h =
          ap (λ s. kind_live tests (kind_with {T = LiveSpec} (outputs_cut m) s))
          (sym (the_same _ _ h))
          ∙ output_back k o q
      by None None p q h = absurd cc

  event_back : (e : TestEvent) (s : Live TestEventSummary) → event_summary e ≡ Some s
      → event_live tests (event_with {T = LiveSpec} (outputs_cut m) s) ≡ live_event_kept m tests e
  event_back e s h = by (kind_summary e.kind) refl h
    where
      by : (k : Option (Live TestEventKindSummary)) → kind_summary e.kind ≡ k
          → option_map (λ (kind : Live TestEventKindSummary).
          record { timestamp = e.timestamp; elapsed = e.elapsed; kind = kind }) k ≡ Some s
          → event_live tests (event_with {T = LiveSpec} (outputs_cut m) s)
          ≡ live_event_kept m tests e
      by None p h = absurd cc
      by (Some k) p h =
          ap (λ s. event_live tests (event_with {T = LiveSpec} (outputs_cut m) s))
          (sym (the_same _ _ h))
          ∙ ap (λ (kind : TestEventKind).
          record { timestamp = e.timestamp; elapsed = e.elapsed; kind = kind })
          (kind_back e.kind k p)

-- ---- what was recorded

none_failed : (a b : Bool) → (a || b) ≡ false → a ≡ false
none_failed true b h = cc
none_failed false b h = refl

module _ {S L N : Type 0} (taken : S → Option (List ℕ)) (faults : S → ℕ)
    (log_taken : L → Option (List ℕ)) (log_faults : L → ℕ) (number : N → List ℕ → ℕ) where
  held_after : (old new : Recording S L N) (more : List Entry) (event : Live TestEventSummary)
      → Logs taken faults log_taken log_faults number old new event
      → AllByRecursion (IsHeld (new.store.entries ++ more))
      (event_entries (number old.namer) old.max_output event)
  held_after old new more event h =
      let fs = event_entries (number old.namer) old.max_output event in
      let stands = clash_none taken faults old.store new.store fs
      (none_failed old.store.failed old.log_failed h.0) h.2 in
      all_weaker (IsHeld new.store.entries) (IsHeld (new.store.entries ++ more))
      (λ f held. content_of-found new.store.entries more f.name f.content held) fs
      (subst (λ es. AllByRecursion (IsHeld es) fs) (sym stands.1)
      (all_held old.store.entries fs stands.0))

  pub replays_kept : (old new : Recording S L N) (more : List Entry) (e : TestEvent)
      (event : Live TestEventSummary) (tests : Bor Tests)
      → event_summary e ≡ Some event
      → Logs taken faults log_taken log_faults number old new event
      → replayed Load tests (new.store.entries ++ more)
      (event_recorded (number old.namer) old.max_output event)
      ≡ live_event_kept old.max_output tests e
  replays_kept old new more e event tests summary logged =
      ap (event_live tests) (loaded_event (number old.namer) old.max_output
      (new.store.entries ++ more) event (held_after old new more event logged))
      ∙ event_back old.max_output tests e event summary
