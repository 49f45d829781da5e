-- What the parts of a step gave, where the step gave Ok.
use Rattle.std.proofs.Common.{◌≡◌, Bool, true, false, cond, Result, Ok, Err}
use Rattle.std.proofs.Common.{OnErr, OnOk, IfErr, IsErrAnd, refl, sym, subst}
use Rattle.rec_container.specs.Reading.{◌>>=◌}

-- a step that goes on with another
pub then_ok : {A B E : Type 0} (first : Result A E) (next : A → Result B E) (y : B)
    → (first >>= next) ≡ Ok y → (x : A) × (first ≡ Ok x) × (next x ≡ Ok y)
then_ok (Ok x) next y e = (x, refl, e)
then_ok (Err d) next y e = absurd cc

-- a step that is refused where a test holds
pub unless_ok : {A E : Type 0} (test : Bool) (fault : E) (step : Result A E) (y : A)
    → cond test (Err fault) step ≡ Ok y → (test ≡ false) × (step ≡ Ok y)
unless_ok false fault step y e = (refl, e)
unless_ok true fault step y e = absurd cc

-- a value that is given where a test holds
pub if_ok : {A E : Type 0} (test : Bool) (fault : E) (x y : A) → cond test (Ok x) (Err fault) ≡ Ok y
    → (test ≡ true) × (x ≡ y)
if_ok false fault x y e = absurd cc
if_ok true fault x y e = (refl, cc)

pub Ok-injective : (E : Type 0) {A : Type 0} (x y : A) → (let r : Result A E = Ok x in r) ≡ Ok y
    → x ≡ y
Ok-injective E x y e = cc

-- a fact that holds anyway holds at an error
pub on_err : {T E : Type 0} {P : Type 0} → (r : Result T E) → P → OnErr r P
on_err (Ok x) p = tt
on_err (Err e) p = p

-- what holds at Ok holds where the value is there
pub ok_fact : {T E : Type 0} {P : Type 0} (r : Result T E) (x : T) → r ≡ Ok x → OnOk r P → P
ok_fact {P = P} r x e h = subst (λ r. OnOk r P) e h

-- what follows from two facts at Ok
pub on_ok_both : {T E P Q R : Type 0} (r : Result T E) → (P → Q → R) → OnOk r P → OnOk r Q
    → OnOk r R
on_ok_both (Ok x) f p q = f p q
on_ok_both (Err e) f p q = tt

-- what follows from a fact at Ok
pub ok_then : {T E P Q : Type 0} (r : Result T E) → (P → Q) → OnOk r P → OnOk r Q
ok_then (Ok x) f p = f p
ok_then (Err e) f p = tt

-- what follows from a fact at an error
pub err_then : {T E P Q : Type 0} (r : Result T E) → (P → Q) → OnErr r P → OnErr r Q
err_then (Ok x) f p = tt
err_then (Err e) f p = f p

-- what holds of the error that it is
pub err_is : {T E : Type 0} (r : Result T E) (x : E) (P : E → Type 0) → IsErrAnd r (λ e. e ≡ x)
    → P x → IfErr r P
err_is (Ok y) x P h p = tt
err_is (Err e) x P h p = subst P (sym h) p
