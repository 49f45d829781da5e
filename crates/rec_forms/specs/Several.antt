-- Several fields that are read by one call.
use Rattle.std.specs.Prelude.{◌≡◌, Option, Some, Result, Ok, Err}
use Rattle.serde_json.specs.Data.{Data, Members}
use Rattle.serde_json.specs.Find.{as_object}
use Rattle.rec_forms.specs.declared.errors.FromValueError.{FromValueError}
use Rattle.rec_forms.specs.Gives.{Refuses}
use Rattle.rec_forms.specs.Shape.{◌>>=◌}

-- all of them, if each is there
abbrev pub two : {A B : Type 0} → Option A → Option B → Option (A × B)
two a b = a >>= λ x. b >>= λ y. Some (x, y)

abbrev pub three : {A B C : Type 0} → Option A → Option B → Option C → Option (A × B × C)
three a b c = a >>= λ x. b >>= λ y. c >>= λ z. Some (x, y, z)

abbrev pub four : {A B C D : Type 0} → Option A → Option B → Option C → Option D
    → Option (A × B × C × D)
four a b c d = a >>= λ x. b >>= λ y. c >>= λ z. d >>= λ u. Some (x, y, z, u)

abbrev pub five : {A B C D E : Type 0} → Option A → Option B → Option C → Option D → Option E
    → Option (A × B × C × D × E)
five a b c d e = a >>= λ x. b >>= λ y. c >>= λ z. d >>= λ u. e >>= λ v. Some (x, y, z, u, v)

-- what a call answers that reads them
abbrev pub GivesTwo : {A B : Type 0} → Result (A × B) FromValueError → Option A → Option B → Type 0
GivesTwo (Ok t) a b = (a ≡ Some t.0) × (b ≡ Some t.1)
GivesTwo (Err e) a b = Refuses e (two a b)

abbrev pub GivesThree : {A B C : Type 0} → Result (A × B × C) FromValueError → Option A → Option B
    → Option C → Type 0
GivesThree (Ok t) a b c = (a ≡ Some t.0) × (b ≡ Some t.1) × (c ≡ Some t.2)
GivesThree (Err e) a b c = Refuses e (three a b c)

abbrev pub GivesFour : {A B C D : Type 0} → Result (A × B × C × D) FromValueError → Option A
    → Option B → Option C → Option D → Type 0
GivesFour (Ok t) a b c d = (a ≡ Some t.0) × (b ≡ Some t.1) × (c ≡ Some t.2) × (d ≡ Some t.3)
GivesFour (Err e) a b c d = Refuses e (four a b c d)

abbrev pub GivesFive : {A B C D E : Type 0} → Result (A × B × C × D × E) FromValueError → Option A
    → Option B → Option C → Option D → Option E → Type 0
GivesFive (Ok t) a b c d e =
    (a ≡ Some t.0) × (b ≡ Some t.1) × (c ≡ Some t.2) × (d ≡ Some t.3) × (e ≡ Some t.4)
GivesFive (Err err) a b c d e = Refuses err (five a b c d e)

-- two of the fields that an object has
pub record AreTwoOf {A B : Type 0} (d : Data) (first : Members → Option A)
    (second : Members → Option B) (t : A × B) : Type 0 where
  pub members : Members
  pub members_are : as_object d ≡ Some members
  pub first_is : first members ≡ Some t.0
  pub second_is : second members ≡ Some t.1

abbrev pub GivesTwoOf : {A B : Type 0} → Result (A × B) FromValueError → Data → (Members → Option A)
    → (Members → Option B) → Type 0
GivesTwoOf (Ok t) d first second = AreTwoOf d first second t
GivesTwoOf (Err e) d first second = Refuses e (as_object d >>= λ ms. two (first ms) (second ms))
