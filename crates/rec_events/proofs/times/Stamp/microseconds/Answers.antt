use Rattle.std.proofs.Common.{◌≡◌, ◌↔◌, ℤ, pos, ◌+ℤ◌, ◌*ℤ◌, ◌/◌, Result, Ok, Err, IsSome}
use Rattle.std.proofs.Common.{IfSome, OkIff, FitsSigned, arith, sym, refl, subst, ◌∙◌}
use Rattle.std.proofs.lemmas.Int.{ints}
use Rattle.std.specs.Int.{w64}
use Rattle.std.specs.Result.{result_ok}
use Rattle.rec_events.proofs.times.Stamp.microseconds.Goals as goal

-- what is read where it fits, beside the number that it is
read_where : {E : Type 0} (r : Result ℤ E) (x z : ℤ) → OkIff r (FitsSigned w64 x) x → x ≡ z
    → IsSome (result_ok r) ↔ FitsSigned w64 z
read_where (Ok m) x z h is = (λ _. subst (FitsSigned w64) is h.0, λ _. refl)
read_where (Err m) x z h is =
    (λ none. cc, λ small. absurd (h (subst (FitsSigned w64) (sym is) small)))

read_as : {E : Type 0} (r : Result ℤ E) (x z : ℤ) → OkIff r (FitsSigned w64 x) x → x ≡ z
    → IfSome (result_ok r) (λ m. m ≡ z)
read_as (Ok m) x z h is = h.1 ∙ is
read_as (Err m) x z h is = tt

pub overflow_cast-micros : goal.overflow_cast-micros
overflow_cast-micros c = omega (arith, ints)

pub overflow_mul-micros : goal.overflow_mul-micros
overflow_mul-micros c = omega (arith, ints)

pub overflow_cast-micros-2 : goal.overflow_cast-micros-2
overflow_cast-micros-2 c = omega arith

pub overflow_add-micros : goal.overflow_add-micros
overflow_add-micros c = omega (arith, ints)

pub returns-clause-some : goal.returns-clause-some
returns-clause-some c =
    rw (c.ok.ensures.value, ← c.self.view_is) (read_where c.try_from.result _
    (c.self.inside.secs *ℤ pos 1000000 +ℤ pos (c.self.inside.nanos / 1000)) c.try_from.ensures
    (omega (arith, ints)))

pub returns-clause-value : goal.returns-clause-value
returns-clause-value c =
    rw (c.ok.ensures.value, ← c.self.view_is) (read_as c.try_from.result _
    (c.self.inside.secs *ℤ pos 1000000 +ℤ pos (c.self.inside.nanos / 1000)) c.try_from.ensures
    (omega (arith, ints)))
