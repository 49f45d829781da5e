-- How tests, scripts and attempts ended reads back, and is writable.
use Rattle.std.proofs.Common.{arith}
use Rattle.std.specs.Prelude.{◌≡◌, Some, codes, refl, [], ◌∷◌}
use Rattle.serde_json.specs.Data.{string}
use Rattle.serde_json.specs.Find.{as_bool}
use Rattle.rec_events.specs.declared.results.ExecutionResultDescription.TheVariants as result
use Rattle.rec_events.specs.declared.results.ExecutionResultDescription.{ExecutionResultDescription}
use Rattle.rec_events.specs.declared.results.FailureDescription.TheVariants as failure
use Rattle.rec_events.specs.declared.results.FailureDescription.{FailureDescription}
use Rattle.rec_events.specs.declared.results.FlakyResult.TheVariants as flaky
use Rattle.rec_events.specs.declared.results.FlakyResult.{FlakyResult}
use Rattle.rec_events.specs.declared.results.LeakTimeoutResult.TheVariants as leak
use Rattle.rec_events.specs.declared.results.LeakTimeoutResult.{LeakTimeoutResult}
use Rattle.rec_events.specs.declared.results.SlowTimeoutResult.TheVariants as slow
use Rattle.rec_events.specs.declared.results.SlowTimeoutResult.{SlowTimeoutResult}
use Rattle.rec_events.specs.Names.{IsText}
use Rattle.rec_forms.specs.GivesWellFormed.{GivesWellFormed}
use Rattle.rec_forms.specs.ListLaws.{maybe_back}
use Rattle.rec_forms.specs.Members.{get_member-members_of}
use Rattle.rec_forms.specs.NumberLaws.{i32_back, text_back, i32_writable}
use Rattle.rec_forms.specs.NumberLaws.{i32_well_formed, text_well_formed}
use Rattle.rec_forms.specs.Numbers.{i32_form}
use Rattle.rec_forms.specs.Results.{flaky_result_value, flaky_result_form, leak_result_value}
use Rattle.rec_forms.specs.Results.{leak_result_form, slow_result_value, slow_result_form}
use Rattle.rec_forms.specs.Results.{failure_value, failure_form, abort_form, IsFailure}
use Rattle.rec_forms.specs.Results.{execution_result_value, execution_result_form, fail_form}
use Rattle.rec_forms.specs.Results.{IsExecutionResult, exit_code_form, leak_form, timeout_form}
use Rattle.rec_forms.specs.Shape.{text_of}
use Rattle.rec_forms.specs.WellFormedLaws.{anything, any_well_formed, map_holds, object_then}
use Rattle.rec_forms.specs.WellFormedLaws.{required_then, maybe_then, variant_well_formed}
use Rattle.rec_forms.specs.Writable.{IsWritable, struct_writable, tagged_writable}
use Rattle.rec_forms.specs.Writable.{optional_writable, string_writable}
use Rattle.rec_forms.specs.Writable.{word_writable, boolean_writable, weaker}

pub flaky_result_back : (x : FlakyResult) → flaky_result_form (flaky_result_value x) ≡ Some x
unfolding flaky_result_form
flaky_result_back flaky.Pass = refl
flaky_result_back flaky.Fail = refl

pub flaky_result_writable : (x : FlakyResult) → IsWritable 0 (flaky_result_value x)
flaky_result_writable flaky.Pass = word_writable _ refl
flaky_result_writable flaky.Fail = word_writable _ refl

pub leak_result_back : (x : LeakTimeoutResult) → leak_result_form (leak_result_value x) ≡ Some x
unfolding leak_result_form
leak_result_back leak.Pass = refl
leak_result_back leak.Fail = refl

pub leak_result_writable : (x : LeakTimeoutResult) → IsWritable 0 (leak_result_value x)
leak_result_writable leak.Pass = word_writable _ refl
leak_result_writable leak.Fail = word_writable _ refl

pub slow_result_back : (x : SlowTimeoutResult) → slow_result_form (slow_result_value x) ≡ Some x
unfolding slow_result_form
slow_result_back slow.Pass = refl
slow_result_back slow.Fail = refl

pub slow_result_writable : (x : SlowTimeoutResult) → IsWritable 0 (slow_result_value x)
slow_result_writable slow.Pass = word_writable _ refl
slow_result_writable slow.Fail = word_writable _ refl

pub failure_back : (f : FailureDescription) → IsFailure f → failure_form (failure_value f) ≡ Some f
unfolding failure_form abort_form
failure_back (failure.ExitCode code) h = rw (i32_back code h)
failure_back (failure.Abort signal name) h =
    simp (
      get_member-members_of,
      i32_back signal h.0,
      maybe_back {n = 0} IsText string text_of text_back string_writable name h.1,
    )

pub failure_writable : (f : FailureDescription) → IsFailure f → IsWritable 2 (failure_value f)
failure_writable (failure.ExitCode code) h =
    tagged_writable (codes "exit-code") _ refl (i32_writable code h)
failure_writable (failure.Abort signal name) h =
    tagged_writable (codes "abort") _ refl (struct_writable _ refl
    (i32_writable signal h.0, (optional_writable string string_writable name h.1, tt)))

pub execution_result_back : (r : ExecutionResultDescription) → IsExecutionResult r
    → execution_result_form (execution_result_value r) ≡ Some r
unfolding execution_result_form fail_form
execution_result_back result.Pass h = refl
execution_result_back (result.Leak r) h = rw (leak_result_back r)
execution_result_back (result.Fail f leaked) h = simp (get_member-members_of, failure_back f h)
execution_result_back result.ExecFail h = refl
execution_result_back (result.Timeout r) h = rw (slow_result_back r)

pub execution_result_writable : (r : ExecutionResultDescription) → IsExecutionResult r
    → IsWritable 4 (execution_result_value r)
execution_result_writable result.Pass h = word_writable _ refl
execution_result_writable (result.Leak r) h =
    tagged_writable (codes "leak") _ refl (weaker 0 3 (omega arith) (leak_result_writable r))
execution_result_writable (result.Fail f leaked) h =
    tagged_writable (codes "fail") _ refl
    (struct_writable _ refl (failure_writable f h, (boolean_writable leaked, tt)))
execution_result_writable result.ExecFail h = word_writable _ refl
execution_result_writable (result.Timeout r) h =
    tagged_writable (codes "timeout") _ refl (weaker 0 3 (omega arith) (slow_result_writable r))

-- ---- what is read is well-formed

abort_well_formed : GivesWellFormed IsFailure abort_form
unfolding abort_form
abort_well_formed = record {
  each = λ d.
      object_then d _ (λ ms.
      required_then i32_form (codes "signal") ms _ i32_well_formed (λ signal signal_is.
      maybe_then text_of (codes "name") ms _ text_well_formed (λ name name_is.
      record { is = (signal_is, name_is) })));
}

exit_code_well_formed : GivesWellFormed IsFailure exit_code_form
exit_code_well_formed = record {
  each = λ d. map_holds failure.ExitCode (i32_form d) (i32_well_formed.each d) (λ code fits. fits);
}

pub failure_well_formed : GivesWellFormed IsFailure failure_form
unfolding failure_form
failure_well_formed =
    variant_well_formed IsFailure []
    ((codes "exit-code", exit_code_form) ∷ (codes "abort", abort_form) ∷ []) tt
    (exit_code_well_formed, (abort_well_formed, tt))

leak_well_formed : GivesWellFormed IsExecutionResult leak_form
leak_well_formed = record {
  each =
      λ d. map_holds result.Leak (leak_result_form d) (anything (leak_result_form d)) (λ r _. tt);
}

timeout_well_formed : GivesWellFormed IsExecutionResult timeout_form
timeout_well_formed = record {
  each =
      λ d.
      map_holds result.Timeout (slow_result_form d) (anything (slow_result_form d)) (λ r _. tt);
}

fail_well_formed : GivesWellFormed IsExecutionResult fail_form
unfolding fail_form
fail_well_formed = record {
  each = λ d.
      object_then d _ (λ ms.
      required_then failure_form (codes "failure") ms _ failure_well_formed (λ failure failure_is.
      required_then as_bool (codes "leaked") ms _ (any_well_formed as_bool) (λ leaked leaked_is.
      record { is = failure_is })));
}

pub execution_result_well_formed : GivesWellFormed IsExecutionResult execution_result_form
unfolding execution_result_form
execution_result_well_formed =
    variant_well_formed IsExecutionResult
    ((codes "pass", result.Pass) ∷ (codes "exec-fail", result.ExecFail) ∷ [])
    ((codes "leak", leak_form) ∷ (codes "fail", fail_form) ∷ (codes "timeout", timeout_form) ∷ [])
    (tt, (tt, tt))
    (leak_well_formed, (fail_well_formed, (timeout_well_formed, tt)))
