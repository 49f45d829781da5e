-- What is known of each row and each test is all that is known.
use Rattle.std.proofs.Common.{◌≡◌, refl, ◌∙◌, subst}
use Rattle.rec_trace.specs.Known.{Known, SameKnown}

-- what says the same of each row and each test is equal
pub same-is : {a b : Known} → SameKnown a b → a ≡ b
same-is same =
    λ i. record {
      is_named = λ row. same.is_named row i;
      running = same.running i;
      last_run = same.last_run i;
      group = λ test. same.group test i;
      arrow = λ test. same.arrow test i;
    }

-- the same is known as is known
pub same-self : (a : Known) → SameKnown a a
same-self a = record {
  is_named = λ row. refl;
  running = refl;
  last_run = refl;
  group = λ test. refl;
  arrow = λ test. refl;
}

-- what is equal is the same
pub same-from : {a b : Known} → a ≡ b → SameKnown a b
same-from {a} e = subst (SameKnown a) e (same-self a)

pub same-trans : {a b c : Known} → SameKnown a b → SameKnown b c → SameKnown a c
same-trans first then = same-from (same-is first ∙ same-is then)
