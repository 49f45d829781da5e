-- How outcomes are shown and reported reads back, and is writable.
use Rattle.std.specs.Prelude.{◌≡◌, Some, refl}
use Rattle.rec_events.specs.declared.reporting.CancelReason.TheVariants.{
  SetupScriptFailure,
  TestFailure,
  ReportError,
  GlobalTimeout,
  TestFailureImmediate,
  Signal,
  Interrupt,
  SecondSignal,
}
use Rattle.rec_events.specs.declared.reporting.CancelReason.{CancelReason}
use Rattle.rec_events.specs.declared.reporting.JunitFlakyFailStatus.TheVariants.{Failure, Success}
use Rattle.rec_events.specs.declared.reporting.JunitFlakyFailStatus.{JunitFlakyFailStatus}
use Rattle.rec_events.specs.declared.reporting.TestOutputDisplay.TheVariants.{Immediate, Final}
use Rattle.rec_events.specs.declared.reporting.TestOutputDisplay.TheVariants.{ImmediateFinal, Never}
use Rattle.rec_events.specs.declared.reporting.TestOutputDisplay.{TestOutputDisplay}
use Rattle.rec_forms.specs.Reporting.{output_display_value, output_display_form}
use Rattle.rec_forms.specs.Reporting.{flaky_fail_status_value, flaky_fail_status_form}
use Rattle.rec_forms.specs.Reporting.{cancel_reason_value, cancel_reason_form}
use Rattle.rec_forms.specs.Writable.{IsWritable, word_writable}

pub output_display_back : (x : TestOutputDisplay)
    → output_display_form (output_display_value x) ≡ Some x
unfolding output_display_form
output_display_back Immediate = refl
output_display_back Final = refl
output_display_back ImmediateFinal = refl
output_display_back Never = refl

pub output_display_writable : (x : TestOutputDisplay) → IsWritable 0 (output_display_value x)
output_display_writable Immediate = word_writable _ refl
output_display_writable Final = word_writable _ refl
output_display_writable ImmediateFinal = word_writable _ refl
output_display_writable Never = word_writable _ refl

pub flaky_fail_status_back : (x : JunitFlakyFailStatus)
    → flaky_fail_status_form (flaky_fail_status_value x) ≡ Some x
unfolding flaky_fail_status_form
flaky_fail_status_back Failure = refl
flaky_fail_status_back Success = refl

pub flaky_fail_status_writable : (x : JunitFlakyFailStatus)
    → IsWritable 0 (flaky_fail_status_value x)
flaky_fail_status_writable Failure = word_writable _ refl
flaky_fail_status_writable Success = word_writable _ refl

pub cancel_reason_back : (x : CancelReason) → cancel_reason_form (cancel_reason_value x) ≡ Some x
unfolding cancel_reason_form
cancel_reason_back SetupScriptFailure = refl
cancel_reason_back TestFailure = refl
cancel_reason_back ReportError = refl
cancel_reason_back GlobalTimeout = refl
cancel_reason_back TestFailureImmediate = refl
cancel_reason_back Signal = refl
cancel_reason_back Interrupt = refl
cancel_reason_back SecondSignal = refl

pub cancel_reason_writable : (x : CancelReason) → IsWritable 0 (cancel_reason_value x)
cancel_reason_writable SetupScriptFailure = word_writable _ refl
cancel_reason_writable TestFailure = word_writable _ refl
cancel_reason_writable ReportError = word_writable _ refl
cancel_reason_writable GlobalTimeout = word_writable _ refl
cancel_reason_writable TestFailureImmediate = word_writable _ refl
cancel_reason_writable Signal = word_writable _ refl
cancel_reason_writable Interrupt = word_writable _ refl
cancel_reason_writable SecondSignal = word_writable _ refl
