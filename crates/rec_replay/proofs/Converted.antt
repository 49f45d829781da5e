-- What conversions of events answer.
use Rattle.std.proofs.Common.{◌≡◌, inl, inr, ℕ, ◌<◌, List, [], ◌∷◌, ◌++◌, length}
use Rattle.std.proofs.Common.{Option, Some, None, Ok, Err, refl, ◌∙◌, ap, subst, arith}
use Rattle.std.specs.Borrow.{Bor}
use Rattle.std.specs.List.{flat_map}
use Rattle.std.specs.Prelude.{Result, ◌⊎◌, IfOk}
use Rattle.rec_container.specs.Container.{Entry}
use Rattle.rec_events.specs.declared.events.CoreEventKind.TheVariants as core
use Rattle.rec_events.specs.declared.events.CoreEventKind.{CoreEventKind}
use Rattle.rec_events.specs.declared.events.OutputEventKind.TheVariants.{
  SetupScriptFinished,
  TestAttemptFailedWillRetry,
  TestFinished,
}
use Rattle.rec_events.specs.declared.events.TestEventKindSummary.TheVariants as event
use Rattle.rec_events.specs.declared.events.TestEventKindSummary.{TestEventKindSummary}
use Rattle.rec_events.specs.declared.events.TestEventSummary.{TestEventSummary}
use Rattle.rec_events.specs.declared.live_events.TestEvent.{TestEvent}
use Rattle.rec_events.specs.declared.live_events.TestEventKind.{TestEventKind}
use Rattle.rec_events.specs.declared.output_names.OutputFileName.{OutputFileName}
use Rattle.rec_events.specs.declared.outputs.ChildExecutionOutputDescription.TheVariants.{
  Output,
  StartError,
}
use Rattle.rec_events.specs.declared.outputs.ChildExecutionOutputDescription.{
  ChildExecutionOutputDescription,
}
use Rattle.rec_events.specs.declared.statuses.ExecuteStatus.{ExecuteStatus}
use Rattle.rec_events.specs.EventMaps.{of_execution, of_status, of_kind}
use Rattle.rec_events.specs.TestLists.{Tests}
use Rattle.rec_store.specs.declared.read_error.RecordReadError.TheVariants as reading
use Rattle.rec_store.specs.declared.read_error.RecordReadError.{RecordReadError}
use Rattle.rec_store.specs.EventOutputs.{Recorded}
use Rattle.rec_replay.proofs.Loaded.{keeps_all}
use Rattle.rec_replay.specs.Conversions.{Converts, ConvertsAs, Judges, Replays, conversion_error}
use Rattle.rec_replay.specs.declared.conversion_error.ReplayConversionError.TheVariants.{
  TestNotFound,
  RecordRead,
  InvalidStressCount,
  OutOfMemory,
}
use Rattle.rec_replay.specs.declared.conversion_error.ReplayConversionError.{ReplayConversionError}
use Rattle.rec_replay.specs.declared.output_load.LoadOutput.TheVariants.{Skip}
use Rattle.rec_replay.specs.declared.output_load.LoadOutput.{LoadOutput}
use Rattle.rec_replay.specs.Loading.{Loads, description_names, event_names, first_refusal}
use Rattle.rec_replay.specs.Replaying.{core_replayed, kind_unloaded, replayed}

-- ---- an error of a reader

-- it is want of memory, or it is why an output was not read
error_made : (e : RecordReadError)
    → (e ≡ reading.OutOfMemory)
    ⊎ ((e ≡ reading.OutOfMemory → ⊥) × (conversion_error e ≡ RecordRead e))
error_made (reading.RunNotFound p) = inr (λ h. cc, refl)
error_made (reading.OpenArchive p) = inr (λ h. cc, refl)
error_made (reading.ParseArchive p f) = inr (λ h. cc, refl)
error_made (reading.FileNotFound p) = inr (λ h. cc, refl)
error_made (reading.FileTooLarge p n m) = inr (λ h. cc, refl)
error_made (reading.NotUtf8 p) = inr (λ h. cc, refl)
error_made (reading.DeserializeMetadata p) = inr (λ h. cc, refl)
error_made (reading.UnknownOutputType p) = inr (λ h. cc, refl)
error_made (reading.ExtractFile p) = inr (λ h. cc, refl)
error_made (reading.OpenRunLog p) = inr (λ h. cc, refl)
error_made (reading.DiskFault p) = inr (λ h. cc, refl)
error_made (reading.ReadRunLog n) = inr (λ h. cc, refl)
error_made (reading.ParseEvent n) = inr (λ h. cc, refl)
error_made reading.OutOfMemory = inl refl

-- an error that isn't want of memory comes only where something is named
some_named : (ns : List OutputFileName) (e : RecordReadError) → (e ≡ reading.OutOfMemory → ⊥)
    → (length ns ≡ 0 → e ≡ reading.OutOfMemory) → 0 < length ns
some_named [] e other named = absurd (other (named refl))
some_named (n ∷ ns) e other named = omega arith

module _ {T U : Type 0} (l m f g : ℕ) (O N : List Entry → Type 0)
    (refusal : Option ReplayConversionError) (ns : List OutputFileName) (x : List Entry → T)
    (y : List Entry → U) where
  -- an event was made of what was read
  pub replays_loaded : (a : T) (b : U) → refusal ≡ None → ((es : List Entry) → a ≡ x es → b ≡ y es)
      → Loads l m f g O N ns x (Ok a) → Replays l m f g O N refusal ns y (Ok b)
  replays_loaded a b none made h = record {
    judged = none;
    answer = λ es w. let p = h.answer es w in (p.0, made es p.1);
    same = h.same;
    cause = record { later = h.cause.later; failed = tt };
  }

  -- an output was not read
  pub replays_unread : (e : RecordReadError) → refusal ≡ None → Loads l m f g O N ns x (Err e)
      → Replays l m f g O N refusal ns y (Err (conversion_error e))
  replays_unread e none h = by (error_made e)
    where
      by : ((e ≡ reading.OutOfMemory)
          ⊎ ((e ≡ reading.OutOfMemory → ⊥) × (conversion_error e ≡ RecordRead e)))
          → Replays l m f g O N refusal ns y (Err (conversion_error e))
      by (inl p) = rw p (record {
        judged = tt;
        answer = λ es w. tt;
        same = h.same;
        cause = record { later = h.cause.later; failed = tt };
      })
      by (inr p) = rw p.1 (record {
        judged = (none, some_named ns e p.0 h.named, p.0);
        answer = h.answer;
        same = h.same;
        cause = record { later = h.cause.later; failed = h.cause.failed };
      })

  -- an event was made of what was replayed
  pub replays_as : (a : T) (b : U) → ((es : List Entry) → a ≡ x es → b ≡ y es)
      → Replays l m f g O N refusal ns x (Ok a) → Replays l m f g O N refusal ns y (Ok b)
  replays_as a b made h = record {
    judged = h.judged;
    answer = λ es w. let p = h.answer es w in (p.0, made es p.1);
    same = h.same;
    cause = record { later = h.cause.later; failed = h.cause.failed };
  }

  -- or it was not made
  pub replays_error : (e : ReplayConversionError) → Replays l m f g O N refusal ns x (Err e)
      → Replays l m f g O N refusal ns y (Err e)
  replays_error OutOfMemory h = record {
    judged = h.judged;
    answer = h.answer;
    same = h.same;
    cause = record { later = h.cause.later; failed = h.cause.failed };
  }
  replays_error (TestNotFound b t) h = record {
    judged = h.judged;
    answer = h.answer;
    same = h.same;
    cause = record { later = h.cause.later; failed = h.cause.failed };
  }
  replays_error InvalidStressCount h = record {
    judged = h.judged;
    answer = h.answer;
    same = h.same;
    cause = record { later = h.cause.later; failed = h.cause.failed };
  }
  replays_error (RecordRead e) h = record {
    judged = h.judged;
    answer = h.answer;
    same = h.same;
    cause = record { later = h.cause.later; failed = h.cause.failed };
  }

-- what was converted without a reader leaves it as it was
pub converts_replays : {T : Type 0} (l f : ℕ) (O : List Entry → Type 0)
    (refusal : Option ReplayConversionError) (x : T) (r : Result T ReplayConversionError)
    → Converts refusal x r
    → Replays l l f f O O refusal [] (λ es. x) r
converts_replays l f O refusal x (Ok y) h = record {
  judged = h.0;
  answer = λ es w. (refl, h.1);
  same = keeps_all l O;
  cause = record { later = omega arith; failed = tt };
}
converts_replays l f O refusal x (Err OutOfMemory) h = record {
  judged = h;
  answer = λ es w. tt;
  same = keeps_all l O;
  cause = record { later = omega arith; failed = tt };
}
converts_replays l f O refusal x (Err (TestNotFound b t)) h = record {
  judged = h;
  answer = λ es w. tt;
  same = keeps_all l O;
  cause = record { later = omega arith; failed = tt };
}
converts_replays l f O refusal x (Err InvalidStressCount) h = record {
  judged = h;
  answer = λ es w. tt;
  same = keeps_all l O;
  cause = record { later = omega arith; failed = tt };
}
converts_replays l f O refusal x (Err (RecordRead e)) h = absurd h

-- ---- skipped outputs

execution_skips : (e : Recorded ChildExecutionOutputDescription)
    → of_execution (description_names Skip) e ≡ []
execution_skips (Output result output errors) = refl
execution_skips (StartError message) = refl

statuses_skip : (l : List (Recorded ExecuteStatus))
    → flat_map (of_status (description_names Skip)) l ≡ []
statuses_skip [] = refl
statuses_skip (s ∷ l) =
    ap (λ ns. ns ++ flat_map (of_status (description_names Skip)) l) (execution_skips s.output)
    ∙ statuses_skip l

kind_skips : (k : Recorded TestEventKindSummary) → of_kind (description_names Skip) k ≡ []
kind_skips (event.Core kind) = refl
kind_skips
    (event.Output (SetupScriptFinished stress index total script program args no_capture status)) =
    execution_skips status.output
kind_skips (event.Output (TestAttemptFailedWillRetry stress test status delay failure running)) =
    execution_skips status.output
kind_skips (event.Output (TestFinished stress test success failure store_success store_failure flaky
    statuses stats running)) =
    statuses_skip statuses.statuses

-- nothing is named
nothing_named : (e : Recorded TestEventSummary) → 0 < length (event_names Skip e) → ⊥
nothing_named e h = none (event_names Skip e) (kind_skips e.kind) h
  where
    none : (ns : List OutputFileName) → ns ≡ [] → 0 < length ns → ⊥
    none ns p h = let zero = ap length p in omega arith

-- so the answer needs no reader
pub skips : {T : Type 0} (limit : ℕ) (refusal : Option ReplayConversionError)
    (holds : List Entry → Type 0) (e : Recorded TestEventSummary) (x : T)
    (r : Result T ReplayConversionError)
    → Judges refusal (event_names Skip e) r
    → ((0 < length (event_names Skip e) → holds [])
    → ConvertsAs (first_refusal [] limit (event_names Skip e)) x r)
    → Converts refusal x r
skips limit refusal holds e x (Ok y) judged answer =
    (judged, (answer (λ h. absurd (nothing_named e h))).1)
skips limit refusal holds e x (Err OutOfMemory) judged answer = tt
skips limit refusal holds e x (Err (TestNotFound b t)) judged answer = judged
skips limit refusal holds e x (Err InvalidStressCount) judged answer = judged
skips limit refusal holds e x (Err (RecordRead error)) judged answer = nothing_named e judged.1

pub converts_skipped : (load : LoadOutput) → load ≡ Skip
    → (l m f g : ℕ) (O N : List Entry → Type 0) (refusal : Option ReplayConversionError)
    (tests : Bor Tests) (e : Recorded TestEventSummary)
    (r : Result TestEvent ReplayConversionError)
    → Replays l m f g O N refusal (event_names load e) (λ es. replayed load tests es e) r
    → Converts refusal (replayed Skip tests [] e) r
converts_skipped asked skip l m f g O N refusal tests e r h =
    skips l refusal O e (replayed Skip tests [] e) r
    (subst (λ (load : LoadOutput). Judges refusal (event_names load e) r) skip h.judged)
    (subst (λ (load : LoadOutput). (0 < length (event_names load e) → O []) → ConvertsAs
    (first_refusal [] l (event_names load e)) (replayed load tests [] e) r) skip (h.answer []))

-- ---- refusals

pub not_refused : (refusal : Option ReplayConversionError) (e : ReplayConversionError)
    → refusal ≡ None → refusal ≡ Some e → ⊥
not_refused refusal e p q = cc

-- ---- without outputs

core_unloaded : (tests : Bor Tests) (c : CoreEventKind)
    → kind_unloaded (core_replayed tests c) ≡ core_replayed tests c
core_unloaded tests (core.RunStarted run profile args condition) = refl
core_unloaded tests (core.StressSubRunStarted progress) = refl
core_unloaded tests (core.SetupScriptStarted stress index total script program args no_capture) =
    refl
core_unloaded tests (core.SetupScriptSlow stress script program args elapsed terminates) = refl
core_unloaded tests (core.TestStarted stress test slot stats running command) = refl
core_unloaded tests (core.TestSlow stress test retry elapsed terminates) = refl
core_unloaded tests (core.TestRetryStarted stress test slot retry running command) = refl
core_unloaded tests (core.TestSkipped stress test reason report) = refl
core_unloaded tests (core.RunBeginCancel scripts running reason) = refl
core_unloaded tests (core.RunPaused scripts running) = refl
core_unloaded tests (core.RunContinued scripts running) = refl
core_unloaded tests (core.StressSubRunFinished progress elapsed stats) = refl
core_unloaded tests (core.RunFinished run start elapsed stats not_seen) = refl

-- what happened without outputs is the same without them
pub core_apart : (tests : Bor Tests) (c : CoreEventKind) (refusal : Option ReplayConversionError)
    (r : Result TestEventKind ReplayConversionError)
    → Converts refusal (core_replayed tests c) r
    → IfOk r (λ k. kind_unloaded k ≡ core_replayed tests c)
core_apart tests c refusal (Ok k) h = ap kind_unloaded h.1 ∙ core_unloaded tests c
core_apart tests c refusal (Err e) h = tt
