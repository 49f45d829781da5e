-- The parts of which each type's `value` and `form` are made.
use Rattle.std.specs.Prelude.{ℕ, ℤ, pos, negsuc, Bool, List, [], ◌∷◌, Option, Some}
use Rattle.std.specs.Prelude.{None, option_map, option_and_then, nat_lt, if◌then◌else◌}
use Rattle.std.specs.Str.{is_utf8, bytes_eq}
use Rattle.serde_json.specs.Data.{Data, null, boolean, number, string, array, object, Members}
use Rattle.serde_json.specs.Find.{as_number, as_str, as_u64, as_i64, get_member}
pub use Rattle.rec_json.specs.Fields.{natural, integer, tagged, only_of}
pub use Rattle.rec_json.specs.Fields.{Field, field, optional, with_member, with_members, struct}
unfoldable pub use Rattle.rec_json.specs.Fields.{members_of}

infixl 10 ◌>>=◌
abbrev pub ◌>>=◌ : {A B : Type 0} → Option A → (A → Option B) → Option B
None >>= f = None
(Some x) >>= f = f x

-- x where the test holds
abbrev pub only : {A : Type 0} → Bool → A → Option A
only b x = if b then Some x else None

-- ---- numbers, truth values and texts

abbrev pub natural_below : ℕ → Data → Option ℕ
natural_below limit d =
    option_and_then (λ n. only (nat_lt n limit) n) (option_and_then as_u64 (as_number d))

-- from -limit to limit - 1
abbrev pub fits : ℕ → ℤ → Bool
fits limit (pos n) = nat_lt n limit
fits limit (negsuc n) = nat_lt n limit

abbrev pub integer_within : ℕ → Data → Option ℤ
integer_within limit d =
    option_and_then (λ z. only (fits limit z) z) (option_and_then as_i64 (as_number d))

abbrev pub text_of : Data → Option (List ℕ)
text_of d = option_and_then (λ s. only (is_utf8 s) s) (as_str d)

-- ---- reading members

abbrev pub required : {T : Type 0} → (Data → Option T) → List ℕ → Members → Option T
required form key ms = option_and_then form (get_member key ms)

abbrev pub if_there : {T : Type 0} → (Data → Option T) → Data → Option (Option T)
if_there form null = Some None
if_there form (boolean b) = option_map Some (form (boolean b))
if_there form (number n) = option_map Some (form (number n))
if_there form (string s) = option_map Some (form (string s))
if_there form (array ds) = option_map Some (form (array ds))
if_there form (object ms) = option_map Some (form (object ms))

abbrev pub at_member : {T : Type 0} → (Data → Option (Option T)) → Option Data → Option (Option T)
at_member form None = Some None
at_member form (Some d) = form d

abbrev pub maybe : {T : Type 0} → (Data → Option T) → List ℕ → Members → Option (Option T)
maybe form key ms = at_member (if_there form) (get_member key ms)

abbrev pub given_or : {T : Type 0} → T → (Data → Option T) → Option Data → Option T
given_or x form None = Some x
given_or x form (Some d) = form d

abbrev pub defaulted : {T : Type 0} → T → (Data → Option T) → List ℕ → Members → Option T
defaulted x form key ms = given_or x form (get_member key ms)

-- ---- names

-- the first of the table with this name
abbrev pub named : {T : Type 0} → List (List ℕ × T) → List ℕ → Option T
named [] s = None
named (t ∷ ts) s = if bytes_eq s t.0 then Some t.1 else named ts s

-- ---- variants

-- what a tag has beside it
abbrev pub cased : {T : Type 0} → List (List ℕ × (Data → Option T)) → Members → Option T
cased cases ms =
    option_and_then (λ m. option_and_then (λ form. form m.1) (named cases m.0)) (only_of ms)

abbrev pub variant : {T : Type 0} → List (List ℕ × T) → List (List ℕ × (Data → Option T)) → Data
    → Option T
variant units cases null = None
variant units cases (boolean b) = None
variant units cases (number n) = None
variant units cases (string s) = named units s
variant units cases (array ds) = None
variant units cases (object ms) = cased cases ms
