-- How open setup scripts are found by their ids: their indexes are noted under them. An id is kept
-- only as long as a script of it is open.
use Rattle.std.specs.BTreeMap.{BTreeMap, get_by_text, is_at}
use Rattle.std.specs.BTreeSet.{BTreeSet, contains_by}
use Rattle.std.specs.declared.alloc.Global.{Global}
use Rattle.std.specs.Ordering.{nat_cmp}
use Rattle.std.specs.Prelude.{◌≡◌, ◌≤◌, ◌&&◌, ℕ, List, Bool, true, false, Option}
use Rattle.std.specs.Prelude.{Some, None, IsSome, String, bytes_eq, cond}
use Rattle.rec_spans.specs.declared.spans.Place.TheVariants as places
use Rattle.rec_spans.specs.declared.spans.Place.{Place}
use Rattle.rec_spans.specs.declared.spans.Span.{Span}
use Rattle.rec_spans.specs.Tied.{at}

-- the indexes that are noted under each id
abbrev pub Notes : Type 0
Notes = BTreeMap (String Global) (BTreeSet ℕ)

-- whether an index is among these
abbrev pub is_among : ℕ → Option (BTreeSet ℕ) → Bool
is_among index None = false
is_among index (Some indexes) = contains_by (nat_cmp index) indexes

-- whether an index is noted under an id
abbrev pub is_noted : Notes → List ℕ → ℕ → Bool
is_noted notes id index = is_among index (get_by_text notes id)

-- each id that is kept has an index noted under it
abbrev pub NoneIsEmpty : Notes → Type 0
NoneIsEmpty notes =
    (name : List ℕ) → IsSome (get_by_text notes name)
    → (index : ℕ) × (is_noted notes name index ≡ true)

-- all is noted as before, but for this index under this id, which is noted now, or isn't
abbrev pub Renotes : Bool → Notes → List ℕ → ℕ → Notes → Type 0
Renotes there old id index new = (name : List ℕ) (i : ℕ) → is_noted new name i
    ≡ cond (bytes_eq id name && is_at (nat_cmp index) i) there (is_noted old name i)

-- the same is noted as before
abbrev pub AreSame : Notes → Notes → Type 0
AreSame old new = (name : List ℕ) (i : ℕ) → is_noted new name i ≡ is_noted old name i

-- the smallest number that passes a test, if one does
abbrev pub IsLeast : (ℕ → Bool) → Option ℕ → Type 0
IsLeast test None = (i : ℕ) → test i ≡ false
IsLeast test (Some index) = (test index ≡ true) × ((i : ℕ) → test i ≡ true → index ≤ i)

-- whether this is a span of this name
abbrev pub is_named : List ℕ → Option Span → Bool
is_named name None = false
is_named name (Some s) = bytes_eq s.name name

-- an index is noted under a name exactly where the setup script of this index is open and has this
-- name
abbrev pub AreNoted : Notes → List (Place × Span) → Type 0
AreNoted notes spans =
    (name : List ℕ) (index : ℕ)
    → is_noted notes name index ≡ is_named name (at spans (places.Script index))
