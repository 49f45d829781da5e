-- What a conversion of a recorded event answers.
use Rattle.std.specs.Prelude.{◌≡◌, ℕ, ◌<◌, ◌≤◌, ◌==◌, List, ◌++◌, length, Bool, true, false}
use Rattle.std.specs.Prelude.{Option, Some, None, Result, Ok, Err, IfErr, ⊤, codes, if◌then◌else◌}
use Rattle.rec_container.specs.Container.{Entry}
use Rattle.rec_events.specs.declared.events.CoreEventKind.TheVariants as core
use Rattle.rec_events.specs.declared.events.CoreEventKind.{CoreEventKind}
use Rattle.rec_events.specs.declared.events.OutputEventKind.TheVariants as ended
use Rattle.rec_events.specs.declared.events.OutputEventKind.{OutputEventKind}
use Rattle.rec_events.specs.declared.events.TestEventKindSummary.TheVariants.{Core, Output}
use Rattle.rec_events.specs.declared.events.TestEventKindSummary.{TestEventKindSummary}
use Rattle.rec_events.specs.declared.events.TestEventSummary.{TestEventSummary}
use Rattle.rec_events.specs.declared.instances.OwnedTestInstanceId.{OwnedTestInstanceId}
use Rattle.rec_events.specs.declared.output_names.OutputFileName.{OutputFileName}
use Rattle.rec_events.specs.declared.stress.StressConditionSummary.TheVariants as condition
use Rattle.rec_events.specs.declared.stress.StressConditionSummary.{StressConditionSummary}
use Rattle.rec_store.specs.declared.read_error.RecordReadError.TheVariants as reading
use Rattle.rec_store.specs.declared.read_error.RecordReadError.{RecordReadError}
use Rattle.rec_store.specs.EventOutputs.{Recorded}
use Rattle.rec_store.specs.Readers.{Denies, IsDiskCaused, Keeps}
use Rattle.rec_replay.specs.declared.conversion_error.ReplayConversionError.TheVariants.{
  TestNotFound,
  RecordRead,
  InvalidStressCount,
  OutOfMemory,
}
use Rattle.rec_replay.specs.declared.conversion_error.ReplayConversionError.{ReplayConversionError}
use Rattle.rec_replay.specs.Loading.{first_refusal, or_done}

-- ---- errors

-- what an output that was not read makes of a conversion: want of memory stays so
abbrev pub conversion_error : RecordReadError → ReplayConversionError
conversion_error reading.OutOfMemory = OutOfMemory
conversion_error e = RecordRead e

abbrev pub error_text : ReplayConversionError → List ℕ
error_text (TestNotFound binary name) =
    codes "test not found under `" ++ (binary ++ (codes "`: " ++ name))
error_text (RecordRead e) = codes "error reading record"
error_text InvalidStressCount = codes "invalid stress count: expected non-zero value, got 0"
error_text OutOfMemory = codes "out of memory"

-- ---- why an event is refused before an output is read

-- a stress run of no runs
abbrev pub condition_refusal : Option StressConditionSummary → Option ReplayConversionError
condition_refusal (Some (condition.Count (Some n))) =
    if n == 0 then Some InvalidStressCount else None
condition_refusal condition = None

-- a test that isn't registered
module _ (registered : OwnedTestInstanceId → Bool) where
  abbrev pub test_refusal : OwnedTestInstanceId → Option ReplayConversionError
  test_refusal t = if registered t then None else Some (TestNotFound t.binary_id t.test_name)

  abbrev pub core_refusal : CoreEventKind → Option ReplayConversionError
  core_refusal (core.RunStarted run profile args condition) = condition_refusal condition
  core_refusal (core.TestStarted stress test slot stats running command) = test_refusal test
  core_refusal (core.TestSlow stress test retry elapsed terminates) = test_refusal test
  core_refusal (core.TestRetryStarted stress test slot retry running command) = test_refusal test
  core_refusal (core.TestSkipped stress test reason report) = test_refusal test
  core_refusal kind = None

  abbrev pub output_refusal : Recorded OutputEventKind → Option ReplayConversionError
  output_refusal
      (ended.SetupScriptFinished stress index total script program args no_capture status) =
      None
  output_refusal (ended.TestAttemptFailedWillRetry stress test status delay failure running) =
      test_refusal test
  output_refusal (ended.TestFinished stress test success failure store_success store_failure flaky
      statuses stats running) =
      test_refusal test

  abbrev pub kind_refusal : Recorded TestEventKindSummary → Option ReplayConversionError
  kind_refusal (Core kind) = core_refusal kind
  kind_refusal (Output kind) = output_refusal kind

  abbrev pub event_refusal : Recorded TestEventSummary → Option ReplayConversionError
  event_refusal e = kind_refusal e.kind

-- which of the kinds with outputs it is
abbrev pub is_script_finished : Recorded OutputEventKind → Bool
is_script_finished
    (ended.SetupScriptFinished stress index total script program args no_capture status) =
    true
is_script_finished kind = false

abbrev pub is_failed_attempt : Recorded OutputEventKind → Bool
is_failed_attempt (ended.TestAttemptFailedWillRetry stress test status delay failure running) = true
is_failed_attempt kind = false

abbrev pub is_finished : Recorded OutputEventKind → Bool
is_finished (ended.TestFinished stress test success failure store_success store_failure flaky
    statuses stats running) =
    true
is_finished kind = false

-- ---- answers

-- x was made, where nothing is refused; no output is read for it
abbrev pub Converts : {T : Type 0} → Option ReplayConversionError → T
    → Result T ReplayConversionError → Type 0
Converts refusal x (Ok y) = (refusal ≡ None) × (y ≡ x)
Converts refusal x (Err OutOfMemory) = ⊤
Converts refusal x (Err (TestNotFound binary name)) = refusal ≡ Some (TestNotFound binary name)
Converts refusal x (Err InvalidStressCount) = refusal ≡ Some InvalidStressCount
Converts refusal x (Err (RecordRead e)) = ⊥

-- over any reader: something was made only where nothing is refused beforehand; these refusals come
-- for their cause; and an output that isn't read is one that the event names, and no want of memory
abbrev pub Judges : {T : Type 0} → Option ReplayConversionError → List OutputFileName
    → Result T ReplayConversionError → Type 0
Judges refusal names (Ok y) = refusal ≡ None
Judges refusal names (Err OutOfMemory) = ⊤
Judges refusal names (Err (TestNotFound binary name)) = refusal ≡ Some (TestNotFound binary name)
Judges refusal names (Err InvalidStressCount) = refusal ≡ Some InvalidStressCount
Judges refusal names (Err (RecordRead e)) =
    (refusal ≡ None) × (0 < length names) × (e ≡ reading.OutOfMemory → ⊥)

-- over entries that the reader knows: x was made and no name is refused;
-- or this is the first that is, or the disk failed
abbrev pub ConvertsAs : {T : Type 0} → Option RecordReadError → T → Result T ReplayConversionError
    → Type 0
ConvertsAs refusal x (Ok y) = (refusal ≡ None) × (y ≡ x)
ConvertsAs refusal x (Err OutOfMemory) = ⊤
ConvertsAs refusal x (Err (TestNotFound binary name)) = ⊤
ConvertsAs refusal x (Err InvalidStressCount) = ⊤
ConvertsAs refusal x (Err (RecordRead e)) = Denies (or_done refusal) e

-- a fault of the disk comes only where the count rose
abbrev pub IsCaused : ℕ → ℕ → ReplayConversionError → Type 0
IsCaused before now OutOfMemory = ⊤
IsCaused before now (TestNotFound binary name) = ⊤
IsCaused before now InvalidStressCount = ⊤
IsCaused before now (RecordRead e) = IsDiskCaused before now e

pub record ConversionCause {T : Type 0} (before now : ℕ)
    (result : Result T ReplayConversionError) : Type 0 where
  pub later : before ≤ now
  pub failed : IfErr result (IsCaused before now)

-- all of this, of a reader that means this before and after
pub record Replays {T : Type 0} (limit limit_now failures failures_now : ℕ)
    (holds holds_now : List Entry → Type 0) (refusal : Option ReplayConversionError)
    (names : List OutputFileName) (x : List Entry → T)
    (result : Result T ReplayConversionError) : Type 0 where
  pub judged : Judges refusal names result
  pub answer : (es : List Entry) → (0 < length names → holds es)
      → ConvertsAs (first_refusal es limit names) (x es) result
  pub same : Keeps limit limit_now holds holds_now
  pub cause : ConversionCause failures failures_now result
