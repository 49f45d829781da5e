-- What a live event is recorded as.
use Rattle.std.specs.Option.{option_or}
use Rattle.std.specs.Prelude.{ℕ, List, [], codes, Option, Some, None, option_map, unwrap_or}
use Rattle.rec_events.specs.declared.events.CoreEventKind.TheVariants as core
use Rattle.rec_events.specs.declared.events.CoreEventKind.{CoreEventKind}
use Rattle.rec_events.specs.declared.events.OutputEventKind.TheVariants as ended
use Rattle.rec_events.specs.declared.events.OutputEventKind.{OutputEventKind}
use Rattle.rec_events.specs.declared.events.TestEventKindSummary.TheVariants.{Core, Output}
use Rattle.rec_events.specs.declared.events.TestEventKindSummary.{TestEventKindSummary}
use Rattle.rec_events.specs.declared.events.TestEventSummary.{TestEventSummary}
use Rattle.rec_events.specs.declared.live_events.TestEvent.{TestEvent}
use Rattle.rec_events.specs.declared.live_events.TestEventKind.TheVariants.{
  RunStarted,
  StressSubRunStarted,
  SetupScriptStarted,
  SetupScriptSlow,
  SetupScriptFinished,
  TestStarted,
  TestSlow,
  TestAttemptFailedWillRetry,
  TestRetryStarted,
  TestFinished,
  TestSkipped,
  RunBeginCancel,
  RunPaused,
  RunContinued,
  StressSubRunFinished,
  RunFinished,
  InfoStarted,
  InfoResponse,
  InfoFinished,
  InputEnter,
  RunBeginKill,
}
use Rattle.rec_events.specs.declared.live_events.TestEventKind.{TestEventKind}
use Rattle.rec_events.specs.declared.outputs.ChildOutputDescription.{ChildOutputDescription}
use Rattle.rec_events.specs.declared.outputs.LiveSpec.{LiveSpec}
use Rattle.rec_events.specs.declared.reporting.CancelReason.TheVariants.{Signal}
use Rattle.rec_events.specs.LiveStress.{index_summary, condition_summary}

-- how the kind is called; what only informs is never recorded, and has no name
abbrev pub kind_name : TestEventKind → List ℕ
kind_name (RunStarted tests run profile args condition) = codes "run-started"
kind_name (StressSubRunStarted progress) = codes "stress-sub-run-started"
kind_name (SetupScriptStarted stress index total script program args no_capture) =
    codes "setup-script-started"
kind_name (SetupScriptSlow stress script program args elapsed terminates) =
    codes "setup-script-slow"
kind_name (SetupScriptFinished stress index total script program args no_capture store_success
    store_failure status) =
    codes "setup-script-finished"
kind_name (TestStarted stress test slot stats running command) = codes "test-started"
kind_name (TestSlow stress test retry elapsed terminates) = codes "test-slow"
kind_name (TestAttemptFailedWillRetry stress test status delay failure running) =
    codes "test-attempt-failed-will-retry"
kind_name (TestRetryStarted stress test slot retry running command) = codes "test-retry-started"
kind_name (TestFinished stress test success failure store_success store_failure flaky statuses stats
    running) =
    codes "test-finished"
kind_name (TestSkipped stress test reason report) = codes "test-skipped"
kind_name (RunBeginCancel scripts running stats) = codes "run-begin-cancel"
kind_name (RunPaused scripts running) = codes "run-paused"
kind_name (RunContinued scripts running) = codes "run-continued"
kind_name (StressSubRunFinished progress elapsed stats) = codes "stress-sub-run-finished"
kind_name (RunFinished run start elapsed stats not_seen) = codes "run-finished"
kind_name InfoStarted = []
kind_name InfoResponse = []
kind_name InfoFinished = []
kind_name InputEnter = []
kind_name RunBeginKill = []

-- what happened without outputs, as it is recorded; the rest has outputs, or only informs
abbrev pub core_kind : TestEventKind → Option CoreEventKind
core_kind (RunStarted tests run profile args condition) =
    Some (core.RunStarted run profile args (option_map condition_summary condition))
core_kind (StressSubRunStarted progress) = Some (core.StressSubRunStarted progress)
core_kind (SetupScriptStarted stress index total script program args no_capture) =
    Some (core.SetupScriptStarted (index_summary stress) index total script program args no_capture)
core_kind (SetupScriptSlow stress script program args elapsed terminates) =
    Some (core.SetupScriptSlow (index_summary stress) script program args elapsed terminates)
core_kind (TestStarted stress test slot stats running command) =
    Some (core.TestStarted (index_summary stress) test slot stats running command)
core_kind (TestSlow stress test retry elapsed terminates) =
    Some (core.TestSlow (index_summary stress) test retry elapsed terminates)
core_kind (TestRetryStarted stress test slot retry running command) =
    Some (core.TestRetryStarted (index_summary stress) test slot retry running command)
core_kind (TestSkipped stress test reason report) =
    Some (core.TestSkipped (index_summary stress) test reason report)
core_kind (RunBeginCancel scripts running stats) =
    Some (core.RunBeginCancel scripts running (unwrap_or stats.cancel_reason Signal))
core_kind (RunPaused scripts running) = Some (core.RunPaused scripts running)
core_kind (RunContinued scripts running) = Some (core.RunContinued scripts running)
core_kind (StressSubRunFinished progress elapsed stats) =
    Some (core.StressSubRunFinished progress elapsed stats)
core_kind (RunFinished run start elapsed stats not_seen) =
    Some (core.RunFinished run start elapsed stats not_seen)
core_kind kind = None

-- what happened with outputs, as it is recorded; the rest has none
abbrev pub output_kind : TestEventKind → Option (OutputEventKind LiveSpec ChildOutputDescription)
output_kind (SetupScriptFinished stress index total script program args no_capture store_success
    store_failure status) =
    Some (ended.SetupScriptFinished (index_summary stress)
    index total script program args no_capture status)
output_kind (TestAttemptFailedWillRetry stress test status delay failure running) =
    Some (ended.TestAttemptFailedWillRetry (index_summary stress) test status delay failure running)
output_kind (TestFinished stress test success failure store_success store_failure flaky statuses
    stats running) =
    Some (ended.TestFinished (index_summary stress)
    test success failure store_success store_failure flaky statuses stats running)
output_kind kind = None

-- what happened, as it is recorded; what only informs is in neither
abbrev pub kind_summary : TestEventKind
    → Option (TestEventKindSummary LiveSpec ChildOutputDescription)
kind_summary k = option_or (option_map Core (core_kind k)) (option_map Output (output_kind k))

abbrev pub event_summary : TestEvent → Option (TestEventSummary LiveSpec ChildOutputDescription)
event_summary e =
    option_map (λ kind. record { timestamp = e.timestamp; elapsed = e.elapsed; kind = kind })
    (kind_summary e.kind)
