-- What is recorded of a kind without outputs, by what it happened to; none for the other kinds.
use Rattle.std.specs.Prelude.{Option, None}
use Rattle.rec_events.specs.declared.events.CoreEventKind.{CoreEventKind}
use Rattle.rec_events.specs.declared.live_events.TestEventKind.TheVariants.{
  RunStarted,
  StressSubRunStarted,
  SetupScriptStarted,
  SetupScriptSlow,
  TestStarted,
  TestSlow,
  TestRetryStarted,
  TestSkipped,
  RunBeginCancel,
  RunPaused,
  RunContinued,
  StressSubRunFinished,
  RunFinished,
}
use Rattle.rec_events.specs.declared.live_events.TestEventKind.{TestEventKind}
use Rattle.rec_events.specs.LiveEvents.{core_kind}

abbrev pub of_run : TestEventKind → Option CoreEventKind
of_run (RunStarted tests run profile args condition) =
    core_kind (RunStarted tests run profile args condition)
of_run (StressSubRunStarted progress) = core_kind (StressSubRunStarted progress)
of_run (StressSubRunFinished progress elapsed stats) =
    core_kind (StressSubRunFinished progress elapsed stats)
of_run (RunFinished run start elapsed stats not_seen) =
    core_kind (RunFinished run start elapsed stats not_seen)
of_run kind = None

abbrev pub of_stop : TestEventKind → Option CoreEventKind
of_stop (RunBeginCancel scripts running stats) = core_kind (RunBeginCancel scripts running stats)
of_stop (RunPaused scripts running) = core_kind (RunPaused scripts running)
of_stop (RunContinued scripts running) = core_kind (RunContinued scripts running)
of_stop kind = None

abbrev pub of_script : TestEventKind → Option CoreEventKind
of_script (SetupScriptStarted stress index total script program args no_capture) =
    core_kind (SetupScriptStarted stress index total script program args no_capture)
of_script (SetupScriptSlow stress script program args elapsed terminates) =
    core_kind (SetupScriptSlow stress script program args elapsed terminates)
of_script kind = None

abbrev pub of_start : TestEventKind → Option CoreEventKind
of_start (TestStarted stress test slot stats running command) =
    core_kind (TestStarted stress test slot stats running command)
of_start (TestRetryStarted stress test slot retry running command) =
    core_kind (TestRetryStarted stress test slot retry running command)
of_start kind = None

abbrev pub of_test : TestEventKind → Option CoreEventKind
of_test (TestSlow stress test retry elapsed terminates) =
    core_kind (TestSlow stress test retry elapsed terminates)
of_test (TestSkipped stress test reason report) = core_kind (TestSkipped stress test reason report)
of_test kind = None
