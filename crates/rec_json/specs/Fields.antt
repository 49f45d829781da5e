-- The parts of which JSON values are made, and the fields of an object in the order of their keys.
use Rattle.std.specs.Cmp.Lexicographic.{slice_cmp}
use Rattle.std.specs.List.Sorted.{IsStrictlySortedBy}
use Rattle.std.specs.Ordering.{nat_cmp, match_ordering}
use Rattle.std.specs.Prelude.{ℕ, ℤ, Bool, false, true, List, [], ◌∷◌}
use Rattle.std.specs.Prelude.{map, Option, Some, None, option_map}
use Rattle.serde_json.specs.Data.{Data, number, array, object, unsigned}
use Rattle.serde_json.specs.Data.{Members, no_members, member, put}
use Rattle.serde_json.specs.Find.{of_integer}
use Rattle.serde_json.specs.View.{items_of}

-- ---- numbers, lists and variants

abbrev pub natural : ℕ → Data
natural n = number (unsigned n)

abbrev pub integer : ℤ → Data
integer z = number (of_integer z)

abbrev pub list_value : {T : Type 0} → (T → Data) → List T → Data
list_value value xs = array (items_of (map value xs))

abbrev pub tagged : List ℕ → Data → Data
tagged k d = object (member k d no_members)

-- an object with exactly one member
abbrev pub only_of : Members → Option (List ℕ × Data)
only_of no_members = None
only_of (member k d no_members) = Some (k, d)
only_of (member k d (member l e ms)) = None

-- ---- the members of an object

abbrev pub Field : Type 0
Field = List ℕ × Option Data

-- a member, and one that may be left out
abbrev pub field : List ℕ → Data → Field
field key d = (key, Some d)

abbrev pub optional : {T : Type 0} → List ℕ → (T → Data) → Option T → Field
optional key value o = (key, option_map value o)

abbrev pub with_member : List ℕ → Option Data → Members → Members
with_member key None ms = ms
with_member key (Some d) ms = put key d ms

abbrev pub with_members : Members → List Field → Members
with_members ms [] = ms
with_members ms (f ∷ fs) = with_members (with_member f.0 f.1 ms) fs

unfoldable pub members_of : List Field → Members
members_of fs = with_members no_members fs

-- the object of these members
abbrev pub struct : List Field → Data
struct fs = object (members_of fs)

-- ---- fields in the order of their keys

-- the later one of two, where it is there
abbrev pub later : Option Data → Option Data → Option Data
later None new = new
later (Some d) None = Some d
later (Some d) (Some e) = Some e

-- the fields with this one at its place
abbrev pub placed : Field → List Field → List Field
placed f [] = f ∷ []
placed f (g ∷ gs) =
    match_ordering (slice_cmp nat_cmp f.0 g.0) (f ∷ g ∷ gs) ((g.0, later g.1 f.1) ∷ gs)
    (g ∷ placed f gs)

abbrev pub placed_all : List Field → List Field → List Field
placed_all gs [] = gs
placed_all gs (f ∷ fs) = placed_all (placed f gs) fs

-- by the bytes of their keys; of equal keys the last field that is there counts
abbrev pub in_order : List Field → List Field
in_order fs = placed_all [] fs

-- each key is below those after it
abbrev pub field_keys : List Field → List (List ℕ)
field_keys fs = map (λ f. f.0) fs

abbrev pub KeysAscend : List Field → Type 0
KeysAscend fs = IsStrictlySortedBy (slice_cmp nat_cmp) (field_keys fs)

-- whether each key is below the next one; of literal keys the test is decided by `refl`
abbrev pub ascend_from : List ℕ → List Field → Bool
ascend_from key [] = true
ascend_from key (f ∷ fs) =
    match_ordering (slice_cmp nat_cmp key f.0) (ascend_from f.0 fs) false false

abbrev pub keys_ascend : List Field → Bool
keys_ascend [] = true
keys_ascend (f ∷ fs) = ascend_from f.0 fs
