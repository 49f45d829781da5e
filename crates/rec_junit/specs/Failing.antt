-- How a result is reported that is no success.
use Rattle.std.specs.Fmt.{signed_decimal}
use Rattle.std.specs.Prelude.{ℕ, List, [], ◌++◌, codes, Option, Some, None, Bool, true, false}
use Rattle.rec_events.specs.declared.recording.NextestRunMode.TheVariants.{Test, Benchmark}
use Rattle.rec_events.specs.declared.recording.NextestRunMode.{NextestRunMode}
use Rattle.rec_events.specs.declared.results.ExecutionResultDescription.TheVariants.{
  Pass,
  Leak,
  Fail,
  ExecFail,
  Timeout,
}
use Rattle.rec_events.specs.declared.results.ExecutionResultDescription.{ExecutionResultDescription}
use Rattle.rec_events.specs.declared.results.FailureDescription.TheVariants.{ExitCode, Abort}
use Rattle.rec_events.specs.declared.results.FailureDescription.{FailureDescription}
use Rattle.rec_events.specs.declared.results.LeakTimeoutResult.TheVariants as leak
use Rattle.rec_events.specs.declared.results.SlowTimeoutResult.TheVariants as slow
use Rattle.rec_junit.specs.declared.failing.FailureKind.{FailureKind}
use Rattle.rec_junit.specs.declared.report.JunitKind.TheVariants as kind
use Rattle.rec_junit.specs.declared.report.JunitKind.{JunitKind}

-- what a test is called, and what a script is
abbrev pub test_unit : NextestRunMode → List ℕ
test_unit Test = codes "test"
test_unit Benchmark = codes "benchmark"

abbrev pub script_unit : List ℕ
script_unit = codes "script"

abbrev pub leaked_note : Bool → List ℕ
leaked_note true = codes " (leaked handles)"
leaked_note false = []

abbrev pub failure_text : List ℕ → FailureDescription → List ℕ → List ℕ
failure_text unit (ExitCode code) note =
    unit ++ (codes " failure with exit code " ++ (signed_decimal code ++ note))
failure_text unit (Abort signal name) note = unit ++ (codes " abort" ++ note)

abbrev pub failed : JunitKind → List ℕ → Option FailureKind
failed kind type_text = Some (record { kind = kind; type_text = type_text })

-- the kind of a result, and its type; a success that was not noticed has none
abbrev pub failing : List ℕ → ExecutionResultDescription → Option FailureKind
failing unit Pass = None
failing unit (Leak leak.Pass) = failed kind.Error (unit ++ codes " passed but leaked handles")
failing unit (Leak leak.Fail) =
    failed kind.Error (unit ++ codes " exited with code 0, but leaked handles so was marked failed")
failing unit (Fail failure leaked) =
    failed kind.Failure (failure_text unit failure (leaked_note leaked))
failing unit ExecFail = failed kind.Error (codes "execution failure")
failing unit (Timeout slow.Pass) = None
failing unit (Timeout slow.Fail) = failed kind.Failure (unit ++ codes " timeout")
