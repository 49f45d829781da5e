-- The values and forms of how outcomes are shown and reported.
use Rattle.std.specs.Prelude.{ℕ, List, [], ◌∷◌, Option, option_and_then, codes}
use Rattle.serde_json.specs.Data.{Data, string}
use Rattle.serde_json.specs.Find.{as_str}
use Rattle.rec_events.specs.declared.reporting.CancelReason.TheVariants.{
  SetupScriptFailure,
  TestFailure,
  ReportError,
  GlobalTimeout,
  TestFailureImmediate,
  Signal,
  Interrupt,
  SecondSignal,
}
use Rattle.rec_events.specs.declared.reporting.CancelReason.{CancelReason}
use Rattle.rec_events.specs.declared.reporting.JunitFlakyFailStatus.TheVariants.{Failure, Success}
use Rattle.rec_events.specs.declared.reporting.JunitFlakyFailStatus.{JunitFlakyFailStatus}
use Rattle.rec_events.specs.declared.reporting.TestOutputDisplay.TheVariants.{Immediate, Final}
use Rattle.rec_events.specs.declared.reporting.TestOutputDisplay.TheVariants.{ImmediateFinal, Never}
use Rattle.rec_events.specs.declared.reporting.TestOutputDisplay.{TestOutputDisplay}
use Rattle.rec_forms.specs.Shape.{named}

-- TestOutputDisplay
abbrev pub output_display_name : TestOutputDisplay → List ℕ
output_display_name Immediate = codes "immediate"
output_display_name Final = codes "final"
output_display_name ImmediateFinal = codes "immediate-final"
output_display_name Never = codes "never"

abbrev pub output_display_value : TestOutputDisplay → Data
output_display_value x = string (output_display_name x)

abbrev pub output_displays : List (List ℕ × TestOutputDisplay)
output_displays =
    (codes "immediate", Immediate)
    ∷ (codes "final", Final)
    ∷ (codes "immediate-final", ImmediateFinal)
    ∷ (codes "never", Never)
    ∷ []

unfoldable pub output_display_form : Data → Option TestOutputDisplay
output_display_form d = option_and_then (named output_displays) (as_str d)

-- JunitFlakyFailStatus
abbrev pub flaky_fail_status_name : JunitFlakyFailStatus → List ℕ
flaky_fail_status_name Failure = codes "failure"
flaky_fail_status_name Success = codes "success"

abbrev pub flaky_fail_status_value : JunitFlakyFailStatus → Data
flaky_fail_status_value x = string (flaky_fail_status_name x)

abbrev pub flaky_fail_statuses : List (List ℕ × JunitFlakyFailStatus)
flaky_fail_statuses = (codes "failure", Failure) ∷ (codes "success", Success) ∷ []

unfoldable pub flaky_fail_status_form : Data → Option JunitFlakyFailStatus
flaky_fail_status_form d = option_and_then (named flaky_fail_statuses) (as_str d)

-- CancelReason
abbrev pub cancel_reason_name : CancelReason → List ℕ
cancel_reason_name SetupScriptFailure = codes "setup-script-failure"
cancel_reason_name TestFailure = codes "test-failure"
cancel_reason_name ReportError = codes "report-error"
cancel_reason_name GlobalTimeout = codes "global-timeout"
cancel_reason_name TestFailureImmediate = codes "test-failure-immediate"
cancel_reason_name Signal = codes "signal"
cancel_reason_name Interrupt = codes "interrupt"
cancel_reason_name SecondSignal = codes "second-signal"

abbrev pub cancel_reason_value : CancelReason → Data
cancel_reason_value x = string (cancel_reason_name x)

abbrev pub cancel_reasons : List (List ℕ × CancelReason)
cancel_reasons =
    (codes "setup-script-failure", SetupScriptFailure)
    ∷ (codes "test-failure", TestFailure)
    ∷ (codes "report-error", ReportError)
    ∷ (codes "global-timeout", GlobalTimeout)
    ∷ (codes "test-failure-immediate", TestFailureImmediate)
    ∷ (codes "signal", Signal)
    ∷ (codes "interrupt", Interrupt)
    ∷ (codes "second-signal", SecondSignal)
    ∷ []

unfoldable pub cancel_reason_form : Data → Option CancelReason
cancel_reason_form d = option_and_then (named cancel_reasons) (as_str d)
