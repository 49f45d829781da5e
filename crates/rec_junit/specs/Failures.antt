-- How something failed with what is said of it, cases that ran, and what a finished script gives.
use Rattle.std.specs.Prelude.{ℕ, List, Option, Some, Result, Ok}
use Rattle.rec_events.specs.declared.results.ExecutionResultDescription.{ExecutionResultDescription}
use Rattle.rec_events.specs.Times.{Moment, Span}
use Rattle.rec_junit.specs.Additions.{script_properties}
use Rattle.rec_junit.specs.Cases.{ScriptStatus, script_case}
use Rattle.rec_junit.specs.declared.describer.ErrorText.{ErrorText}
use Rattle.rec_junit.specs.declared.errors.JunitError.TheVariants.{SuccessAsFailure}
use Rattle.rec_junit.specs.declared.errors.JunitError.{JunitError}
use Rattle.rec_junit.specs.declared.failing.FailureKind.{FailureKind}
use Rattle.rec_junit.specs.declared.report.JunitCase.{JunitCase}
use Rattle.rec_junit.specs.declared.report.JunitProperty.{JunitProperty}
use Rattle.rec_junit.specs.declared.report.JunitStatus.{JunitStatus}
use Rattle.rec_junit.specs.declared.reruns.Storing.{Storing}
use Rattle.rec_junit.specs.declared.stored_outputs.StoredOutput.{StoredOutput}
use Rattle.rec_junit.specs.declared.suite_keys.SuiteKey.{SuiteKey}
use Rattle.rec_junit.specs.Describing.{Execution}
use Rattle.rec_junit.specs.Failing.{failing}
use Rattle.rec_junit.specs.Judging.{◌>>=◌, or_refused}
use Rattle.rec_junit.specs.Suites.{suite_name}

abbrev pub failure_of : List ℕ → (Execution → Option ErrorText) → ExecutionResultDescription
    → Execution → Result (FailureKind × Option ErrorText) JunitError
failure_of unit text_of ending execution = do
  kind ← or_refused SuccessAsFailure (failing unit ending)
  Ok (kind, text_of execution)

-- a case of this name, which ran, and what was judged of it
abbrev pub case_of : List ℕ → List ℕ → Moment → Span → JunitStatus × StoredOutput → JunitCase
case_of name classname start taken judged = record {
  name = name;
  classname = classname;
  timestamp = Some start;
  time = Some taken;
  status = judged.0;
  system_out = judged.1.system_out;
  system_err = judged.1.system_err;
}

-- the case of a script in the suite of this key, and what is said of the suite
abbrev pub script_parts :
    (Execution → Option ErrorText) → Storing → SuiteKey → List ℕ → List ℕ → List (List ℕ)
    → ScriptStatus → Result (JunitCase × List JunitProperty) JunitError
script_parts text_of storing key script program args ran = do
  case ← script_case text_of storing script (suite_name key) ran
  Ok (case, script_properties program args ran.env_map)
