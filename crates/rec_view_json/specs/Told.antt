-- What an event tells of the test or the attempt that it is of.
use Rattle.std.specs.Option.{option_or}
use Rattle.std.specs.Prelude.{◌-◌, ℕ, Bool, true, false, List, length, slice_get}
use Rattle.std.specs.Prelude.{Option, Some, None, option_and_then, option_map}
use Rattle.rec_events.specs.declared.events.CoreEventKind.TheVariants.{
  SetupScriptStarted,
  SetupScriptSlow,
  TestStarted,
  TestSlow,
  TestRetryStarted,
  TestSkipped,
  RunBeginCancel,
  RunStarted,
  RunFinished,
}
use Rattle.rec_events.specs.declared.events.CoreEventKind.{CoreEventKind}
use Rattle.rec_events.specs.declared.events.OutputEventKind.TheVariants.{
  SetupScriptFinished,
  TestAttemptFailedWillRetry,
  TestFinished,
}
use Rattle.rec_events.specs.declared.events.OutputEventKind.{OutputEventKind}
use Rattle.rec_events.specs.declared.events.TestEventKindSummary.TheVariants.{Core, Output}
use Rattle.rec_events.specs.declared.events.TestEventKindSummary.{TestEventKindSummary}
use Rattle.rec_events.specs.declared.events.TestEventSummary.{TestEventSummary}
use Rattle.rec_events.specs.declared.instances.RetryData.{RetryData}
use Rattle.rec_events.specs.declared.instances.StressIndexSummary.{StressIndexSummary}
use Rattle.rec_events.specs.declared.script_statuses.SetupScriptExecuteStatus.{
  SetupScriptExecuteStatus,
}
use Rattle.rec_events.specs.declared.skipping.MismatchReason.{MismatchReason}
use Rattle.rec_events.specs.declared.statuses.ExecuteStatus.{ExecuteStatus}
use Rattle.rec_events.specs.Times.{Moment}
use Rattle.rec_view_json.specs.declared.marks.Mark.TheVariants.{Cancelled, RunFinish}
use Rattle.rec_view_json.specs.declared.marks.Mark.TheVariants.{RunStart, ScriptStart, Slow}
use Rattle.rec_view_json.specs.declared.marks.Mark.{Mark}

-- ---- events without outputs

-- the slot of an attempt that starts
abbrev pub core_slot : CoreEventKind → Option ℕ
core_slot (TestStarted stress test slot stats running command) = Some slot.global_slot
core_slot (TestRetryStarted stress test slot retry running command) = Some slot.global_slot
core_slot _ = None

-- which attempt it is, which a first one doesn't tell
abbrev pub core_retry : CoreEventKind → Option RetryData
core_retry (TestRetryStarted stress test slot retry running command) = Some retry
core_retry _ = None

-- why a test is skipped
abbrev pub core_reason : CoreEventKind → Option MismatchReason
core_reason (TestSkipped stress test reason skipped) = Some reason
core_reason _ = None

-- how many setup scripts stand before one that starts, and which one it is
abbrev pub core_index : CoreEventKind → Option ℕ
core_index (SetupScriptStarted stress index total script program args no_capture) = Some index
core_index _ = None

abbrev pub core_script : CoreEventKind → Option (List ℕ)
core_script (SetupScriptStarted stress index total script program args no_capture) = Some script
core_script _ = None

-- the sub-run that a test or a setup script belongs to
abbrev pub core_stress : CoreEventKind → Option StressIndexSummary
core_stress (SetupScriptStarted stress index total script program args no_capture) = stress
core_stress (TestStarted stress test slot stats running command) = stress
core_stress (TestRetryStarted stress test slot retry running command) = stress
core_stress (TestSkipped stress test reason skipped) = stress
core_stress _ = None

-- something has run for longer than it should
abbrev pub core_slow : CoreEventKind → Bool
core_slow (SetupScriptSlow stress script program args elapsed will_terminate) = true
core_slow (TestSlow stress test retry elapsed will_terminate) = true
core_slow _ = false

-- the run is cancelled
abbrev pub core_cancels : CoreEventKind → Bool
core_cancels (RunBeginCancel scripts running reason) = true
core_cancels _ = false

-- the run starts, or has finished
abbrev pub core_starts_run : CoreEventKind → Bool
core_starts_run (RunStarted run_id profile_name cli_args stress_condition) = true
core_starts_run _ = false

abbrev pub core_finishes_run : CoreEventKind → Bool
core_finishes_run (RunFinished run_id start_time elapsed run_stats outstanding) = true
core_finishes_run _ = false

-- a setup script starts
abbrev pub core_starts_script : CoreEventKind → Bool
core_starts_script (SetupScriptStarted stress index total script program args no_capture) = true
core_starts_script _ = false

-- ---- events

module _ {S O : Type 0} where
  abbrev pub slot_told : TestEventKindSummary S O → Option ℕ
  slot_told (Core kind) = core_slot kind
  slot_told (Output kind) = None

  abbrev pub retry_told : TestEventKindSummary S O → Option RetryData
  retry_told (Core kind) = core_retry kind
  retry_told (Output kind) = None

  abbrev pub reason_told : TestEventKindSummary S O → Option MismatchReason
  reason_told (Core kind) = core_reason kind
  reason_told (Output kind) = None

  abbrev pub index_told : TestEventKindSummary S O → Option ℕ
  index_told (Core kind) = core_index kind
  index_told (Output kind) = None

  abbrev pub script_told : TestEventKindSummary S O → Option (List ℕ)
  script_told (Core kind) = core_script kind
  script_told (Output kind) = None

  abbrev pub output_stress : OutputEventKind S O → Option StressIndexSummary
  output_stress (TestFinished stress test success failure store_success store_failure junit statuses
      stats running) =
      stress
  output_stress _ = None

  abbrev pub stress_told : TestEventKindSummary S O → Option StressIndexSummary
  stress_told (Core kind) = core_stress kind
  stress_told (Output kind) = output_stress kind

  -- the status of the attempt that an event ends: that of a failed one, or the last of a test
  abbrev pub output_status : OutputEventKind S O → Option (ExecuteStatus S O)
  output_status (SetupScriptFinished stress index total script program args no_capture status) =
      None
  output_status (TestAttemptFailedWillRetry stress test status delay failure running) = Some status
  output_status (TestFinished stress test success failure store_success store_failure junit statuses
      stats running) =
      slice_get statuses.statuses (length statuses.statuses - 1)

  abbrev pub status_told : TestEventKindSummary S O → Option (ExecuteStatus S O)
  status_told (Core kind) = None
  status_told (Output kind) = output_status kind

  -- the status of the setup script that an event ends
  abbrev pub output_script_status : OutputEventKind S O → Option (SetupScriptExecuteStatus S O)
  output_script_status (SetupScriptFinished stress index total script program args no_capture
      status) =
      Some status
  output_script_status _ = None

  abbrev pub script_status_told : TestEventKindSummary S O → Option (SetupScriptExecuteStatus S O)
  script_status_told (Core kind) = None
  script_status_told (Output kind) = output_script_status kind

  abbrev pub is_slow : TestEventKindSummary S O → Bool
  is_slow (Core kind) = core_slow kind
  is_slow (Output kind) = false

  abbrev pub cancels : TestEventKindSummary S O → Bool
  cancels (Core kind) = core_cancels kind
  cancels (Output kind) = false

  abbrev pub starts_run : TestEventKindSummary S O → Bool
  starts_run (Core kind) = core_starts_run kind
  starts_run (Output kind) = false

  abbrev pub finishes_run : TestEventKindSummary S O → Bool
  finishes_run (Core kind) = core_finishes_run kind
  finishes_run (Output kind) = false

  abbrev pub starts_script : TestEventKindSummary S O → Bool
  starts_script (Core kind) = core_starts_script kind
  starts_script (Output kind) = false

  -- an event is listed as the log has it, under this mark
  abbrev pub is_marked : Mark → TestEventKindSummary S O → Bool
  is_marked Cancelled = cancels
  is_marked RunFinish = finishes_run
  is_marked RunStart = starts_run
  is_marked ScriptStart = starts_script
  is_marked Slow = is_slow

-- ---- events by their positions

module _ {S O : Type 0} where
  -- what the event at a position tells, and when it was, where one stands there
  abbrev pub told_at : {A : Type 0} → (TestEventKindSummary S O → Option A)
      → List (TestEventSummary S O) → ℕ → Option A
  told_at tells events i = option_and_then (λ e. tells e.kind) (slice_get events i)

  abbrev pub instant_at : List (TestEventSummary S O) → ℕ → Option Moment
  instant_at events i = option_map (λ e. e.timestamp) (slice_get events i)

  -- past the last event that of the last
  abbrev pub moment_at : List (TestEventSummary S O) → ℕ → Option Moment
  moment_at events i = option_or (instant_at events i) (instant_at events (length events - 1))
