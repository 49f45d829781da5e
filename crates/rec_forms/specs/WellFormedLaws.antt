-- What is read by parts is well-formed where its parts are.
use Rattle.std.specs.List.{AllByRecursion}
use Rattle.std.specs.Prelude.{◌≡◌, ℕ, Bool, true, false, List, [], ◌∷◌, Option, Some, None}
use Rattle.std.specs.Prelude.{IfSome, option_map, option_and_then, if◌then◌else◌, refl}
use Rattle.std.specs.Str.{bytes_eq}
use Rattle.serde_json.specs.Data.{Data, null, boolean, number, string, array}
use Rattle.serde_json.specs.Data.{object, Items, no_items, item, Members}
use Rattle.serde_json.specs.Find.{as_object, as_array, get_member}
use Rattle.rec_forms.specs.GivesWellFormed.{Holds, GivesWellFormed}
use Rattle.rec_forms.specs.Lists.{each, list_form}
use Rattle.rec_forms.specs.Shape.{◌>>=◌, only, if_there, at_member, required, maybe}
use Rattle.rec_forms.specs.Shape.{given_or, defaulted, named, only_of, cased, variant}

-- ---- one step after another

-- of any item nothing is said
pub anything : {T : Type 0} (o : Option T) → Holds (λ _. Unit {0}) o
anything None = record { is = tt }
anything (Some x) = record { is = tt }

pub any_well_formed : {T : Type 0} (form : Data → Option T) → GivesWellFormed (λ _. Unit {0}) form
any_well_formed form = record { each = λ d. anything (form d) }

pub then_holds : {A B : Type 0} {P : A → Type 0} {Q : B → Type 0} (o : Option A) (f : A → Option B)
    → Holds P o → ((x : A) → P x → Holds Q (f x)) → Holds Q (o >>= f)
then_holds None f h k = record { is = tt }
then_holds (Some x) f h k = k x h.is

pub and_then_holds : {A B : Type 0} {P : A → Type 0} {Q : B → Type 0} (f : A → Option B)
    (o : Option A)
    → Holds P o → ((x : A) → P x → Holds Q (f x)) → Holds Q (option_and_then f o)
and_then_holds f None h k = record { is = tt }
and_then_holds f (Some x) h k = k x h.is

pub map_holds : {A B : Type 0} {P : A → Type 0} {Q : B → Type 0} (f : A → B) (o : Option A)
    → Holds P o → ((x : A) → P x → Q (f x)) → Holds Q (option_map f o)
map_holds f None h k = record { is = tt }
map_holds f (Some x) h k = record { is = k x h.is }

pub only_holds : {T : Type 0} {P : T → Type 0} (b : Bool) (x : T) → (b ≡ true → P x)
    → Holds P (only b x)
only_holds true x h = record { is = h refl }
only_holds false x h = record { is = tt }

-- what is taken where a test holds, of one or the other
pub choice_holds : {T : Type 0} (P : T → Type 0) (b : Bool) (x y : T) → (b ≡ true → P x)
    → (b ≡ false → P y) → P (if b then x else y)
choice_holds P true x y h k = h refl
choice_holds P false x y h k = k refl

-- ---- members

pub object_then : {B : Type 0} {Q : B → Type 0} (d : Data) (f : Members → Option B)
    → ((ms : Members) → Holds Q (f ms)) → Holds Q (as_object d >>= f)
object_then d f k = then_holds (as_object d) f (anything (as_object d)) (λ ms _. k ms)

module _ {A : Type 0} {P : A → Type 0} (form : Data → Option A) (h : GivesWellFormed P form) where
  there_holds : (d : Data) → Holds (λ o. IfSome o P) (if_there form d)
  there_holds null = record { is = tt }
  there_holds (boolean b) = map_holds Some (form (boolean b)) (h.each (boolean b)) (λ x y. y)
  there_holds (number n) = map_holds Some (form (number n)) (h.each (number n)) (λ x y. y)
  there_holds (string s) = map_holds Some (form (string s)) (h.each (string s)) (λ x y. y)
  there_holds (array ds) = map_holds Some (form (array ds)) (h.each (array ds)) (λ x y. y)
  there_holds (object ms) = map_holds Some (form (object ms)) (h.each (object ms)) (λ x y. y)

  -- what may be null
  pub if_there_well_formed : GivesWellFormed (λ o. IfSome o P) (if_there form)
  if_there_well_formed = record { each = there_holds }

  at_holds : (o : Option Data) → Holds (λ x. IfSome x P) (at_member (if_there form) o)
  at_holds None = record { is = tt }
  at_holds (Some d) = there_holds d

  given_holds : (missing : A) (o : Option Data) → P missing → Holds P (given_or missing form o)
  given_holds missing None m = record { is = m }
  given_holds missing (Some d) m = h.each d

module _ {A B : Type 0} {P : A → Type 0} {Q : B → Type 0} (form : Data → Option A) (key : List ℕ)
    (ms : Members) where
  pub required_then : (f : A → Option B) → GivesWellFormed P form → ((x : A) → P x → Holds Q (f x))
      → Holds Q (required form key ms >>= f)
  required_then f h k =
      then_holds (required form key ms) f
      (and_then_holds form (get_member key ms) (anything (get_member key ms)) (λ d _. h.each d)) k

  pub maybe_then : (f : Option A → Option B) → GivesWellFormed P form
      → ((x : Option A) → IfSome x P → Holds Q (f x)) → Holds Q (maybe form key ms >>= f)
  maybe_then f h k = then_holds (maybe form key ms) f (at_holds form h (get_member key ms)) k

  pub defaulted_then : (missing : A) (f : A → Option B) → P missing → GivesWellFormed P form
      → ((x : A) → P x → Holds Q (f x)) → Holds Q (defaulted missing form key ms >>= f)
  defaulted_then missing f m h k =
      then_holds (defaulted missing form key ms) f
      (given_holds form h missing (get_member key ms) m) k

-- ---- variants

named_at : {T : Type 0} {P : T → Type 0} (b : Bool) (x : T) (o : Option T) → P x → Holds P o
    → Holds P (if b then Some x else o)
named_at true x o h k = record { is = h }
named_at false x o h k = k

pub named_holds : {T : Type 0} (P : T → Type 0) (ts : List (List ℕ × T))
    → AllByRecursion (λ t. P t.1) ts → (s : List ℕ) → Holds P (named ts s)
named_holds P [] h s = record { is = tt }
named_holds P (t ∷ ts) h s = named_at (bytes_eq s t.0) t.1 (named ts s) h.0 (named_holds P ts h.1 s)

pub variant_well_formed : {T : Type 0} (P : T → Type 0) (units : List (List ℕ × T))
    (cases : List (List ℕ × (Data → Option T)))
    → AllByRecursion (λ u. P u.1) units → AllByRecursion (λ c. GivesWellFormed P c.1) cases
    → GivesWellFormed P (variant units cases)
variant_well_formed {T} P units cases hu hc =
    let at_case : (ms : Members) → Holds P (cased cases ms) = λ ms.
    and_then_holds (λ (m : List ℕ × Data).
    option_and_then (λ (form : Data → Option T). form m.1) (named cases m.0))
    (only_of ms) (anything (only_of ms)) (λ m _.
    and_then_holds (λ (form : Data → Option T). form m.1) (named cases m.0)
    (named_holds (λ (form : Data → Option T). GivesWellFormed P form) cases hc m.0)
    (λ form h. h.each m.1)) in
    record {
      each = λ d. elim d as (λ e. Holds P (variant units cases e)) [
        | null ↦ record { is = tt }
        | boolean b ↦ record { is = tt }
        | number n ↦ record { is = tt }
        | string s ↦ named_holds P units hu s
        | array ds ↦ record { is = tt }
        | object ms ↦ at_case ms
      ];
    }

-- ---- lists

module _ {T : Type 0} {P : T → Type 0} (form : Data → Option T) (h : GivesWellFormed P form) where
  each_holds : (ds : Items) → Holds (AllByRecursion P) (each form ds)
  each_holds no_items = record { is = tt }
  each_holds (item d ds) =
      and_then_holds (λ (x : T). option_map (λ xs. x ∷ xs) (each form ds)) (form d) (h.each d)
      (λ x y. map_holds (λ xs. x ∷ xs) (each form ds) (each_holds ds) (λ xs ys. (y, ys)))

  pub list_well_formed : GivesWellFormed (AllByRecursion P) (list_form form)
  list_well_formed = record {
    each =
        λ d.
        and_then_holds (each form) (as_array d) (anything (as_array d)) (λ ds _. each_holds ds);
  }
