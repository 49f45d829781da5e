-- The lines that a replay writes.
use Rattle.std.specs.Fmt.{decimal, signed_decimal}
use Rattle.std.specs.Option.{option_map_or}
use Rattle.std.specs.Prelude.{ℕ, ◌+◌, ◌-◌, List, [], ◌∷◌, ◌++◌, length}
use Rattle.std.specs.Prelude.{drop, codes, slice_get, Option, Some, None}
use Rattle.uuid.specs.Text.{lower, hyphenated_text}
use Rattle.rec_events.specs.declared.instances.OwnedTestInstanceId.{OwnedTestInstanceId}
use Rattle.rec_events.specs.declared.live_events.TestEvent.{TestEvent}
use Rattle.rec_events.specs.declared.live_events.TestEventKind.TheVariants.{
  SetupScriptStarted,
  SetupScriptSlow,
  SetupScriptFinished,
  TestStarted,
  TestSlow,
  TestAttemptFailedWillRetry,
  TestRetryStarted,
  TestFinished,
  TestSkipped,
}
use Rattle.rec_events.specs.declared.live_events.TestEventKind.{TestEventKind}
use Rattle.rec_events.specs.declared.outputs.ChildExecutionOutputDescription.TheVariants.{
  Output,
  StartError,
}
use Rattle.rec_events.specs.declared.outputs.ChildExecutionOutputDescription.{
  ChildExecutionOutputDescription,
}
use Rattle.rec_events.specs.declared.outputs.ChildOutputDescription.TheVariants.{
  Split,
  Combined,
  NotLoaded,
}
use Rattle.rec_events.specs.declared.outputs.ChildOutputDescription.{ChildOutputDescription}
use Rattle.rec_events.specs.declared.outputs.LiveSpec.{LiveSpec}
use Rattle.rec_events.specs.LiveEvents.{kind_name}
use Rattle.rec_events.specs.Times.{Moment}
use Rattle.rec_format.specs.declared.status.RecordedRunStatus.TheVariants.{
  Incomplete,
  Completed,
  Cancelled,
  StressCompleted,
  StressCancelled,
  Unknown,
}
use Rattle.rec_format.specs.declared.status.RecordedRunStatus.{RecordedRunStatus}
use Rattle.rec_replay.specs.declared.header.ReplayHeader.{ReplayHeader}

-- ---- the line of a header

abbrev pub status_word : RecordedRunStatus → List ℕ
status_word Incomplete = codes "incomplete"
status_word (Completed stats) = codes "completed"
status_word (Cancelled stats) = codes "cancelled"
status_word (StressCompleted stats) = codes "stress-completed"
status_word (StressCancelled stats) = codes "stress-cancelled"
status_word Unknown = codes "unknown"

abbrev pub header_line : ReplayHeader → List ℕ
header_line h =
    codes "header "
    ++ (hyphenated_text lower h.run_id ++ (codes " " ++ (status_word h.status ++ codes "\n")))

-- ---- the line of an event

-- the last nine digits of a number below 1000000000, with zeros before it
abbrev pub nine_digits : ℕ → List ℕ
nine_digits n = drop 1 (decimal (1000000000 + n))

abbrev pub stamp_text : Moment → List ℕ
stamp_text t = signed_decimal t.secs ++ (codes "." ++ nine_digits t.nanos)

abbrev pub test_text : OwnedTestInstanceId → List ℕ
test_text t = codes " " ++ t.binary_id ++ codes " " ++ t.test_name

-- which test or script an event is of
abbrev pub subject_text : TestEventKind → List ℕ
subject_text (SetupScriptStarted stress index total script program args no_capture) =
    codes " " ++ script
subject_text (SetupScriptSlow stress script program args elapsed terminates) = codes " " ++ script
subject_text (SetupScriptFinished stress index total script program args no_capture store_success
    store_failure status) =
    codes " " ++ script
subject_text (TestStarted stress test slot stats running command) = test_text test
subject_text (TestSlow stress test retry elapsed terminates) = test_text test
subject_text (TestAttemptFailedWillRetry stress test status delay failure running) = test_text test
subject_text (TestRetryStarted stress test slot retry running command) = test_text test
subject_text (TestFinished stress test success failure store_success store_failure flaky statuses
    stats running) =
    test_text test
subject_text (TestSkipped stress test reason report) = test_text test
subject_text kind = []

-- how many bytes an output has, where it was captured
abbrev pub count_text : Option (List ℕ) → List ℕ
count_text None = codes "-"
count_text (Some b) = decimal (length b)

abbrev pub description_text : ChildOutputDescription → List ℕ
description_text (Split out err) =
    codes " stdout=" ++ count_text out ++ codes " stderr=" ++ count_text err
description_text (Combined both) = codes " combined=" ++ decimal (length both)
description_text NotLoaded = codes " not-loaded"

abbrev pub execution_text : ChildExecutionOutputDescription LiveSpec ChildOutputDescription → List ℕ
execution_text (Output result output errors) = description_text output
execution_text (StartError message) = codes " start-error"

-- the outputs of the last attempt
abbrev pub outputs_text : TestEventKind → List ℕ
outputs_text (SetupScriptFinished stress index total script program args no_capture store_success
    store_failure status) =
    execution_text status.output
outputs_text (TestAttemptFailedWillRetry stress test status delay failure running) =
    execution_text status.output
outputs_text (TestFinished stress test success failure store_success store_failure flaky statuses
    stats running) =
    option_map_or (λ s. execution_text s.output)
    (slice_get statuses.statuses (length statuses.statuses - 1)) []
outputs_text kind = []

-- a line under a name; what has no name has no line
abbrev pub line_of : Moment → TestEventKind → List ℕ → List ℕ
line_of time kind [] = []
line_of time kind (c ∷ cs) =
    stamp_text time ++ codes " " ++ (c ∷ cs) ++ subject_text kind ++ outputs_text kind ++ codes "\n"

-- the line of an event; what only informs has no name
abbrev pub line_text : TestEvent → List ℕ
line_text e = line_of e.timestamp e.kind (kind_name e.kind)
