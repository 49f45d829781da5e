-- What is refused, and what is answered where nothing is.
use Rattle.std.specs.Prelude.{◌≡◌, List, ◌++◌, Option, Some, None, Result, Ok, Err}
use Rattle.rec_junit.specs.declared.errors.JunitError.TheVariants.{
  NotLoadedOutput,
  SuccessAsFailure,
  OutOfMemory,
}
use Rattle.rec_junit.specs.declared.errors.JunitError.{JunitError}

-- what can be refused; what comes first is judged first
infixl 10 ◌>>=◌
abbrev pub ◌>>=◌ : {A B : Type 0} → Result A JunitError → (A → Result B JunitError)
    → Result B JunitError
(Ok x) >>= f = f x
(Err e) >>= f = Err e

abbrev pub or_refused : {A : Type 0} → JunitError → Option A → Result A JunitError
or_refused e None = Err e
or_refused e (Some x) = Ok x

-- a refusal comes exactly where it is due; want of memory is free
abbrev pub Judges : {A : Type 0} → Result A JunitError → Result A JunitError → Type 0
Judges (Ok x) r = r ≡ Ok x
Judges (Err NotLoadedOutput) r = r ≡ Err NotLoadedOutput
Judges (Err SuccessAsFailure) r = r ≡ Err SuccessAsFailure
Judges (Err OutOfMemory) r = Unit {0}

-- the refusal, if there is one
abbrev pub refusal_in : {A : Type 0} → Result A JunitError → Option JunitError
refusal_in (Ok x) = None
refusal_in (Err e) = Some e

-- the same of an answer that says no more than this
abbrev pub IsJudged : {A : Type 0} → Result A JunitError → Option JunitError → Type 0
IsJudged (Ok x) refusal = refusal ≡ None
IsJudged (Err NotLoadedOutput) refusal = refusal ≡ Some NotLoadedOutput
IsJudged (Err SuccessAsFailure) refusal = refusal ≡ Some SuccessAsFailure
IsJudged (Err OutOfMemory) refusal = Unit {0}

-- these, and then those that follow, if they aren't refused
abbrev pub after : {A : Type 0} → List A → Result (List A) JunitError → Result (List A) JunitError
after done (Ok xs) = Ok (done ++ xs)
after done (Err e) = Err e
