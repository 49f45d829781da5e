-- The values and forms of how tests, scripts and attempts ended.
use Rattle.std.specs.Int.{w32}
use Rattle.std.specs.Prelude.{ℕ, List, [], ◌∷◌, Option, Some, FitsSigned}
use Rattle.std.specs.Prelude.{IfSome, option_map, option_and_then, codes}
use Rattle.serde_json.specs.Data.{Data, string, boolean}
use Rattle.serde_json.specs.Find.{as_object, as_str, as_bool}
use Rattle.rec_events.specs.declared.results.ExecutionResultDescription.TheVariants as result
use Rattle.rec_events.specs.declared.results.ExecutionResultDescription.{ExecutionResultDescription}
use Rattle.rec_events.specs.declared.results.FailureDescription.TheVariants as failure
use Rattle.rec_events.specs.declared.results.FailureDescription.{FailureDescription}
use Rattle.rec_events.specs.declared.results.FlakyResult.TheVariants as flaky
use Rattle.rec_events.specs.declared.results.FlakyResult.{FlakyResult}
use Rattle.rec_events.specs.declared.results.LeakTimeoutResult.TheVariants as leak
use Rattle.rec_events.specs.declared.results.LeakTimeoutResult.{LeakTimeoutResult}
use Rattle.rec_events.specs.declared.results.SlowTimeoutResult.TheVariants as slow
use Rattle.rec_events.specs.declared.results.SlowTimeoutResult.{SlowTimeoutResult}
use Rattle.rec_events.specs.Names.{IsText}
use Rattle.rec_forms.specs.Numbers.{i32_form}
use Rattle.rec_forms.specs.Shape.{◌>>=◌, integer, field, optional, struct}
use Rattle.rec_forms.specs.Shape.{required, maybe, text_of, named, tagged, variant}

-- FlakyResult
abbrev pub flaky_result_name : FlakyResult → List ℕ
flaky_result_name flaky.Pass = codes "pass"
flaky_result_name flaky.Fail = codes "fail"

abbrev pub flaky_result_value : FlakyResult → Data
flaky_result_value x = string (flaky_result_name x)

abbrev pub flaky_results : List (List ℕ × FlakyResult)
flaky_results = (codes "pass", flaky.Pass) ∷ (codes "fail", flaky.Fail) ∷ []

unfoldable pub flaky_result_form : Data → Option FlakyResult
flaky_result_form d = option_and_then (named flaky_results) (as_str d)

-- LeakTimeoutResult
abbrev pub leak_result_name : LeakTimeoutResult → List ℕ
leak_result_name leak.Pass = codes "pass"
leak_result_name leak.Fail = codes "fail"

abbrev pub leak_result_value : LeakTimeoutResult → Data
leak_result_value x = string (leak_result_name x)

abbrev pub leak_results : List (List ℕ × LeakTimeoutResult)
leak_results = (codes "pass", leak.Pass) ∷ (codes "fail", leak.Fail) ∷ []

unfoldable pub leak_result_form : Data → Option LeakTimeoutResult
leak_result_form d = option_and_then (named leak_results) (as_str d)

-- SlowTimeoutResult
abbrev pub slow_result_name : SlowTimeoutResult → List ℕ
slow_result_name slow.Pass = codes "pass"
slow_result_name slow.Fail = codes "fail"

abbrev pub slow_result_value : SlowTimeoutResult → Data
slow_result_value x = string (slow_result_name x)

abbrev pub slow_results : List (List ℕ × SlowTimeoutResult)
slow_results = (codes "pass", slow.Pass) ∷ (codes "fail", slow.Fail) ∷ []

unfoldable pub slow_result_form : Data → Option SlowTimeoutResult
slow_result_form d = option_and_then (named slow_results) (as_str d)

-- FailureDescription
abbrev pub failure_value : FailureDescription → Data
failure_value (failure.ExitCode code) = tagged (codes "exit-code") (integer code)
failure_value (failure.Abort signal name) =
    tagged (codes "abort")
    (struct (field (codes "signal") (integer signal) ∷ optional (codes "name") string name ∷ []))

abbrev pub exit_code_form : Data → Option FailureDescription
exit_code_form d = option_map failure.ExitCode (i32_form d)

unfoldable pub abort_form : Data → Option FailureDescription
abort_form d = do
  ms ← as_object d
  signal ← required i32_form (codes "signal") ms
  name ← maybe text_of (codes "name") ms
  Some (failure.Abort signal name)

unfoldable pub failure_form : Data → Option FailureDescription
failure_form = variant [] ((codes "exit-code", exit_code_form) ∷ (codes "abort", abort_form) ∷ [])

abbrev pub IsFailure : FailureDescription → Type 0
IsFailure (failure.ExitCode code) = FitsSigned w32 code
IsFailure (failure.Abort signal name) = FitsSigned w32 signal × IfSome name IsText

-- ExecutionResultDescription
abbrev pub execution_result_value : ExecutionResultDescription → Data
execution_result_value result.Pass = string (codes "pass")
execution_result_value (result.Leak r) = tagged (codes "leak") (leak_result_value r)
execution_result_value (result.Fail f leaked) =
    tagged (codes "fail") (struct
    (field (codes "failure") (failure_value f) ∷ field (codes "leaked") (boolean leaked) ∷ []))
execution_result_value result.ExecFail = string (codes "exec-fail")
execution_result_value (result.Timeout r) = tagged (codes "timeout") (slow_result_value r)

abbrev pub leak_form : Data → Option ExecutionResultDescription
leak_form d = option_map result.Leak (leak_result_form d)

unfoldable pub fail_form : Data → Option ExecutionResultDescription
fail_form d = do
  ms ← as_object d
  failure ← required failure_form (codes "failure") ms
  leaked ← required as_bool (codes "leaked") ms
  Some (result.Fail failure leaked)

abbrev pub timeout_form : Data → Option ExecutionResultDescription
timeout_form d = option_map result.Timeout (slow_result_form d)

unfoldable pub execution_result_form : Data → Option ExecutionResultDescription
execution_result_form =
    variant
    ((codes "pass", result.Pass) ∷ (codes "exec-fail", result.ExecFail) ∷ [])
    ((codes "leak", leak_form) ∷ (codes "fail", fail_form) ∷ (codes "timeout", timeout_form) ∷ [])

abbrev pub IsExecutionResult : ExecutionResultDescription → Type 0
IsExecutionResult result.Pass = Unit {0}
IsExecutionResult (result.Leak r) = Unit {0}
IsExecutionResult (result.Fail f leaked) = IsFailure f
IsExecutionResult result.ExecFail = Unit {0}
IsExecutionResult (result.Timeout r) = Unit {0}
