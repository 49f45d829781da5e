-- Judgements in their order, taken apart.
use Rattle.std.proofs.Common.{◌≡◌, ℕ, List, Bool, true, false, length, nat_lt, Option}
use Rattle.std.proofs.Common.{Some, None, Result, Ok, Err, refl, if◌then◌else◌}
use Rattle.rec_container.specs.Reading.{◌>>=◌}
use Rattle.rec_store.specs.declared.read_error.RecordReadError.{RecordReadError}
use Rattle.rec_portable.specs.declared.upgrade_error.UpgradeError.{UpgradeError}
use Rattle.rec_portable.specs.Upgrading.{none_foreign, or_read_error, unless}

-- a chain has a value only where its first step has one
pub bind_ok : {A B E : Type 0} (r : Result A E) (f : A → Result B E) (y : B) → (r >>= f) ≡ Ok y
    → (x : A) × (r ≡ Ok x) × (f x ≡ Ok y)
bind_ok (Ok x) f y h = (x, refl, h)
bind_ok (Err e) f y h = absurd (let k = h in cc)

pub same_ok : {A : Type 0} (E : Type 0) (x y : A) → ◌≡◌ {A = Result A E} (Ok x) (Ok y) → x ≡ y
same_ok E x y h = let k = h in cc

pub same_err : {E : Type 0} (A : Type 0) (x y : E) → ◌≡◌ {A = Result A E} (Err x) (Err y) → x ≡ y
same_err A x y h = let k = h in cc

-- what is both accepted and refused
pub not_both : {A E : Type 0} (r : Result A E) (x : A) (e : E) → r ≡ Ok x → r ≡ Err e → ⊥
not_both (Ok y) x e h g = let k = g in cc
not_both (Err f) x e h g = let k = h in cc

pub none_ok : (o : Option (List ℕ)) (u : Unit {0}) → none_foreign o ≡ Ok u → o ≡ None
none_ok None u h = refl
none_ok (Some name) u h = absurd (let k = h in cc)

pub or_read_ok : {T : Type 0} (r : Result T RecordReadError) (x : T) → or_read_error r ≡ Ok x
    → r ≡ Ok x
or_read_ok (Ok y) x h = let k = h in cc
or_read_ok (Err e) x h = absurd (let k = h in cc)

pub unless_ok : {T : Type 0} (o : Option UpgradeError) (x y : T) → unless o x ≡ Ok y
    → (o ≡ None) × (x ≡ y)
unless_ok None x y h = (refl, let k = h in cc)
unless_ok (Some e) x y h = absurd (let k = h in cc)

-- a value that a test lets pass
pub test_ok : {A E : Type 0} (b : Bool) (e : E) (x y : A) → (if b then Err e else Ok x) ≡ Ok y
    → x ≡ y
test_ok true e x y h = absurd (let k = h in cc)
test_ok false e x y h = let k = h in cc
