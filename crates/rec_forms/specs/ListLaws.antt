-- Lists and optional members read back.
use Rattle.std.specs.List.{AllByRecursion}
use Rattle.std.specs.Prelude.{◌≡◌, ◌≢◌, ℕ, List, [], ◌∷◌, map, Option}
use Rattle.std.specs.Prelude.{Some, None, option_map, IfSome, refl}
use Rattle.serde_json.specs.Data.{Data, null, boolean, number, string, array, object}
use Rattle.serde_json.specs.View.{items_of}
use Rattle.rec_forms.specs.Lists.{list_value, list_form, each}
use Rattle.rec_forms.specs.Shape.{if_there, at_member}
use Rattle.rec_forms.specs.Writable.{IsWritable}

module _ {T : Type 0} (P : T → Type 0) (value : T → Data) (form : Data → Option T)
    (back : (x : T) → P x → form (value x) ≡ Some x) where
  pub each_back : (xs : List T) → AllByRecursion P xs
      → each form (items_of (map value xs)) ≡ Some xs
  each_back [] all = refl
  each_back (x ∷ xs) all = rw (back x all.0, each_back xs all.1)

  pub list_back : (xs : List T) → AllByRecursion P xs
      → list_form form (list_value value xs) ≡ Some xs
  list_back xs all = each_back xs all

-- what isn't null is read by its form
if_there-other : {T : Type 0} (form : Data → Option T) (d : Data) → d ≢ null
    → if_there form d ≡ option_map Some (form d)
if_there-other form null h = absurd (h refl)
if_there-other form (boolean b) h = refl
if_there-other form (number n) h = refl
if_there-other form (string s) h = refl
if_there-other form (array ds) h = refl
if_there-other form (object ms) h = refl

-- an optional member reads back
pub maybe_back : {T : Type 0} {n : ℕ} (P : T → Type 0) (value : T → Data) (form : Data → Option T)
    → ((x : T) → P x → form (value x) ≡ Some x)
    → ((x : T) → P x → IsWritable n (value x)) → (o : Option T) → IfSome o P
    → at_member (if_there form) (option_map value o) ≡ Some o
maybe_back P value form back writable None h = refl
maybe_back P value form back writable (Some x) h =
    rw (if_there-other form (value x) (writable x h).some, back x h)
