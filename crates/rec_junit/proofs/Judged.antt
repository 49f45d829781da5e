-- A refusal goes on through what comes after it.
use Rattle.std.proofs.Common.{◌≡◌, List, Option, Some, Result, Ok, Err, ap, refl, sym, subst, ◌∙◌}
use Rattle.rec_junit.specs.declared.errors.JunitError.TheVariants.{
  NotLoadedOutput,
  SuccessAsFailure,
  OutOfMemory,
}
use Rattle.rec_junit.specs.declared.errors.JunitError.{JunitError}
use Rattle.rec_junit.specs.declared.report.JunitCase.{JunitCase}
use Rattle.rec_junit.specs.declared.report.JunitProperty.{JunitProperty}
use Rattle.rec_junit.specs.declared.suite_keys.SuiteKey.{SuiteKey}
use Rattle.rec_junit.specs.declared.suites.Addition.{Addition}
use Rattle.rec_junit.specs.Judging.{◌>>=◌, Judges}

pub refused_before : {A B : Type 0} (e : JunitError) (r : Result A JunitError)
    (f : A → Result B JunitError)
    → Judges {A = A} (Err e) r → Judges (Err e) (r >>= f)
refused_before NotLoadedOutput r f h = ap (λ s. s >>= f) h
refused_before SuccessAsFailure r f h = ap (λ s. s >>= f) h
refused_before OutOfMemory r f h = tt

-- what is made of a case is an addition with what is said of its suite
module _ (key : SuiteKey) (properties : List JunitProperty) where
  abbrev added : JunitCase × List JunitProperty → Result (Option Addition) JunitError
  added parts = Ok (Some (record { key = key; case = parts.0; properties = parts.1 }))

  in_two : (r : Result JunitCase JunitError)
      → (r >>= (λ case. added (case, properties)))
      ≡ ((r >>= (λ case. Ok (case, properties))) >>= added)
  in_two (Ok case) = refl
  in_two (Err e) = refl

  pub parts_added : (r : Result JunitCase JunitError) (parts : JunitCase × List JunitProperty)
      → (r >>= (λ case. Ok (case, properties))) ≡ Ok parts
      → (r >>= (λ case. added (case, properties))) ≡ added parts
  parts_added r parts h = in_two r ∙ ap (λ s. s >>= added) h

  pub parts_refused : (r : Result JunitCase JunitError) (e : JunitError)
      → Judges {A = JunitCase × List JunitProperty} (Err e) (r >>= (λ case. Ok (case, properties)))
      → Judges {A = Option Addition} (Err e) (r >>= (λ case. added (case, properties)))
  parts_refused r e h =
      subst (λ s. Judges {A = Option Addition} (Err e) s) (sym (in_two r))
      (refused_before e (r >>= (λ case. Ok (case, properties))) added h)
