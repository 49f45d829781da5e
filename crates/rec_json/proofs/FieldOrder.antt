-- Fields in the order of their keys are the members of the object.
use Rattle.std.proofs.Common.{sym, ap, ◌∙◌, append_assoc, false, is_eq}
use Rattle.std.proofs.Common.{true, Bool, Ordering, Less, Equal, Greater}
use Rattle.std.proofs.lemmas.Map.Text.{is_eq-slice_cmp}
use Rattle.std.proofs.lemmas.Slice.Eq.{bytes_eq-Decides}
use Rattle.std.specs.Cmp.Lexicographic.{slice_cmp, nat_list_cmp_total}
use Rattle.std.specs.List.Sorted.{IsStrictlySortedBy}
use Rattle.std.specs.List.{AllByRecursion}
use Rattle.std.specs.Ordering.{nat_cmp, match_ordering, ordering_reverse}
use Rattle.std.specs.Prelude.{◌≡◌, ℕ, List, [], ◌∷◌, ◌++◌, Option, Some, None, refl}
use Rattle.serde_json.specs.Data.{Data, Members, no_members, member, put}
use Rattle.rec_json.specs.Fields.{Field, KeysAscend, ascend_from, field_keys}
use Rattle.rec_json.specs.Fields.{keys_ascend, with_member, with_members}
use Rattle.rec_json.specs.Fields.{members_of, later, placed, placed_all, in_order}

-- the members that fields are, in their order
abbrev pub plain_with : List ℕ → Option Data → Members → Members
plain_with k None ms = ms
plain_with k (Some d) ms = member k d ms

abbrev pub plain : List Field → Members
plain [] = no_members
plain (f ∷ fs) = plain_with f.0 f.1 (plain fs)

-- the key is below those of the fields
abbrev IsBelow : List ℕ → List Field → Type 0
IsBelow k = AllByRecursion (λ g. slice_cmp nat_cmp k g.0 ≡ Less)

-- each key is below those after it
abbrev pub Ascend : List Field → Type 0
Ascend [] = Unit {0}
Ascend (g ∷ gs) = IsBelow g.0 gs × Ascend gs

put_first_at : (k : List ℕ) (d : Data) (l : List ℕ) (o : Option Data) (ms : Members)
    → slice_cmp nat_cmp k l ≡ Less → put k d ms ≡ member k d ms
    → put k d (plain_with l o ms) ≡ member k d (plain_with l o ms)
put_first_at k d l None ms less rest = rest
put_first_at k d l (Some e) ms less rest = rw less refl

put_first : (k : List ℕ) (d : Data) (gs : List Field) → IsBelow k gs
    → put k d (plain gs) ≡ member k d (plain gs)
put_first k d [] h = refl
put_first k d (g ∷ gs) h = put_first_at k d g.0 g.1 (plain gs) h.0 (put_first k d gs h.1)

below_all : (k l : List ℕ) (gs : List Field) → slice_cmp nat_cmp k l ≡ Less → IsBelow l gs
    → IsBelow k gs
below_all k l [] e h = tt
below_all k l (g ∷ gs) e h = (nat_list_cmp_total.trans k l g.0 e h.0, below_all k l gs e h.1)

pub same_key : (k l : List ℕ) → slice_cmp nat_cmp k l ≡ Equal → k ≡ l
same_key k l e = (bytes_eq-Decides k l).0 (sym (is_eq-slice_cmp k l) ∙ ap is_eq e)

-- ---- a field that is left out

plain-same_at : (k : List ℕ) (o : Option Data) (gs : List Field)
    → plain ((k, later o None) ∷ gs) ≡ plain ((k, o) ∷ gs)
plain-same_at k None gs = refl
plain-same_at k (Some d) gs = refl

plain-nothing_at : (o : Ordering) (k : List ℕ) (g : Field) (gs : List Field)
    → plain (placed (k, None) gs) ≡ plain gs
    → plain
    (match_ordering o ((k, None) ∷ g ∷ gs) ((g.0, later g.1 None) ∷ gs) (g ∷ placed (k, None) gs))
    ≡ plain (g ∷ gs)
plain-nothing_at Less k g gs rest = refl
plain-nothing_at Equal k g gs rest = plain-same_at g.0 g.1 gs
plain-nothing_at Greater k g gs rest = ap (plain_with g.0 g.1) rest

plain-nothing : (k : List ℕ) (gs : List Field) → plain (placed (k, None) gs) ≡ plain gs
plain-nothing k [] = refl
plain-nothing k (g ∷ gs) = plain-nothing_at (slice_cmp nat_cmp k g.0) k g gs (plain-nothing k gs)

-- ---- a field that is there

plain-something_at : (c : Ordering) (k : List ℕ) (d : Data) (l : List ℕ) (o : Option Data)
    (gs : List Field)
    → slice_cmp nat_cmp k l ≡ c → IsBelow l gs
    → plain (placed (k, Some d) gs) ≡ put k d (plain gs)
    → plain (match_ordering c ((k, Some d) ∷ (l, o) ∷ gs) ((l, later o (Some d)) ∷ gs)
    ((l, o) ∷ placed (k, Some d) gs))
    ≡ put k d (plain ((l, o) ∷ gs))
plain-something_at Less k d l o gs e below rest =
    sym (put_first k d ((l, o) ∷ gs) (e, below_all k l gs e below))
plain-something_at Equal k d l None gs e below rest =
    let same = same_key k l e in rw same (sym (put_first l d gs below))
plain-something_at Equal k d l (Some x) gs e below rest = rw e refl
plain-something_at Greater k d l None gs e below rest = rest
plain-something_at Greater k d l (Some x) gs e below rest = rw e (ap (member l x) rest)

plain-something : (k : List ℕ) (d : Data) (gs : List Field) → Ascend gs
    → plain (placed (k, Some d) gs) ≡ put k d (plain gs)
plain-something k d [] h = refl
plain-something k d (g ∷ gs) h =
    plain-something_at _ k d g.0 g.1 gs refl h.0 (plain-something k d gs h.1)

plain-placed : (k : List ℕ) (o : Option Data) (gs : List Field) → Ascend gs
    → plain (placed (k, o) gs) ≡ with_member k o (plain gs)
plain-placed k None gs h = plain-nothing k gs
plain-placed k (Some d) gs h = plain-something k d gs h

-- ---- all fields

below-placed_at : (c : Ordering) (x : List ℕ) (f g : Field) (gs : List Field)
    → slice_cmp nat_cmp x f.0 ≡ Less → IsBelow x (g ∷ gs) → IsBelow x (placed f gs)
    → IsBelow x (match_ordering c (f ∷ g ∷ gs) ((g.0, later g.1 f.1) ∷ gs) (g ∷ placed f gs))
below-placed_at Less x f g gs e h rest = (e, h)
below-placed_at Equal x f g gs e h rest = h
below-placed_at Greater x f g gs e h rest = (h.0, rest)

below-placed : (x : List ℕ) (f : Field) (gs : List Field) → slice_cmp nat_cmp x f.0 ≡ Less
    → IsBelow x gs → IsBelow x (placed f gs)
below-placed x f [] e h = (e, tt)
below-placed x f (g ∷ gs) e h =
    below-placed_at (slice_cmp nat_cmp f.0 g.0) x f g gs e h (below-placed x f gs e h.1)

Ascend-placed_at : (c : Ordering) (f g : Field) (gs : List Field) → slice_cmp nat_cmp f.0 g.0 ≡ c
    → IsBelow g.0 gs → Ascend gs → Ascend (placed f gs)
    → Ascend (match_ordering c (f ∷ g ∷ gs) ((g.0, later g.1 f.1) ∷ gs) (g ∷ placed f gs))
Ascend-placed_at Less f g gs e below h rest = ((e, below_all f.0 g.0 gs e below), (below, h))
Ascend-placed_at Equal f g gs e below h rest = (below, h)
Ascend-placed_at Greater f g gs e below h rest = (
  below-placed g.0 f gs (nat_list_cmp_total.antisymm g.0 f.0 ∙ ap ordering_reverse e) below,
  rest,
)

Ascend-placed : (f : Field) (gs : List Field) → Ascend gs → Ascend (placed f gs)
Ascend-placed f [] h = (tt, tt)
Ascend-placed f (g ∷ gs) h = Ascend-placed_at _ f g gs refl h.0 h.1 (Ascend-placed f gs h.1)

plain-placed_all : (gs fs : List Field) → Ascend gs
    → plain (placed_all gs fs) ≡ with_members (plain gs) fs
plain-placed_all gs [] h = refl
plain-placed_all gs (f ∷ fs) h =
    plain-placed_all (placed f gs) fs (Ascend-placed f gs h)
    ∙ ap (λ ms. with_members ms fs) (plain-placed f.0 f.1 gs h)

-- the members of an object are its fields in the order of their keys
pub plain-in_order : (fs : List Field) → plain (in_order fs) ≡ members_of fs
unfolding members_of
plain-in_order fs = plain-placed_all [] fs tt

-- ---- fields that are in order already

placed_last : (f g : Field) (gs : List Field) → slice_cmp nat_cmp g.0 f.0 ≡ Less
    → placed f gs ≡ gs ++ f ∷ [] → placed f (g ∷ gs) ≡ g ∷ (gs ++ f ∷ [])
placed_last f g gs less rest =
    let above : slice_cmp nat_cmp f.0 g.0 ≡ Greater =
    nat_list_cmp_total.antisymm f.0 g.0 ∙ ap ordering_reverse less in
    rw above (ap (λ hs. g ∷ hs) rest)

below_in : (k : List ℕ) (gs : List Field) (f : Field) (fs : List Field) → IsBelow k (gs ++ f ∷ fs)
    → slice_cmp nat_cmp k f.0 ≡ Less
below_in k [] f fs h = h.0
below_in k (g ∷ gs) f fs h = below_in k gs f fs h.1

-- a field above those that are placed goes last
placed_above : (gs : List Field) (f : Field) (fs : List Field) → Ascend (gs ++ f ∷ fs)
    → placed f gs ≡ gs ++ f ∷ []
placed_above [] f fs h = refl
placed_above (g ∷ gs) f fs h =
    placed_last f g gs (below_in g.0 gs f fs h.0) (placed_above gs f fs h.1)

append_none : (gs : List Field) → gs ++ [] ≡ gs
append_none [] = refl
append_none (g ∷ gs) = ap (λ hs. g ∷ hs) (append_none gs)

moved : (gs : List Field) (f : Field) (fs : List Field) → Ascend (gs ++ f ∷ fs)
    → Ascend ((gs ++ f ∷ []) ++ fs)
moved gs f fs h = rw (append_assoc gs (f ∷ []) fs) h

placed_all-ascending : (gs fs : List Field) → Ascend (gs ++ fs) → placed_all gs fs ≡ gs ++ fs
placed_all-ascending gs [] h = sym (append_none gs)
placed_all-ascending gs (f ∷ fs) h =
    ap (λ hs. placed_all hs fs) (placed_above gs f fs h)
    ∙ placed_all-ascending (gs ++ f ∷ []) fs (moved gs f fs h) ∙ append_assoc gs (f ∷ []) fs

below_keys : (k : List ℕ) (fs : List Field)
    → AllByRecursion (λ key. slice_cmp nat_cmp k key ≡ Less) (field_keys fs) → IsBelow k fs
below_keys k [] h = tt
below_keys k (f ∷ fs) h = (h.0, below_keys k fs h.1)

Ascend-keys : (fs : List Field) → KeysAscend fs → Ascend fs
unfolding IsStrictlySortedBy
Ascend-keys [] h = tt
Ascend-keys (f ∷ fs) h = (below_keys f.0 fs h.0, Ascend-keys fs h.1)

-- fields whose keys ascend are in order as they stand
pub in_order-keys : (fs : List Field) → KeysAscend fs → in_order fs ≡ fs
in_order-keys fs h = placed_all-ascending [] fs (Ascend-keys fs h)

-- ---- where the test says so

is_below : (o : Ordering) (rest : Bool) → match_ordering o rest false false ≡ true
    → (o ≡ Less) × (rest ≡ true)
is_below Less rest h = (refl, h)
is_below Equal rest h = cc h
is_below Greater rest h = cc h

ascend_from-holds : (k : List ℕ) (fs : List Field) → ascend_from k fs ≡ true
    → IsBelow k fs × Ascend fs
ascend_from-holds k [] h = (tt, tt)
ascend_from-holds k (f ∷ fs) h =
    let first = is_below (slice_cmp nat_cmp k f.0) (ascend_from f.0 fs) h in
    let others = ascend_from-holds f.0 fs first.1 in
    ((first.0, below_all k f.0 fs first.0 others.0), others)

keys_ascend-holds : (fs : List Field) → keys_ascend fs ≡ true → Ascend fs
keys_ascend-holds [] h = tt
keys_ascend-holds (f ∷ fs) h = ascend_from-holds f.0 fs h

-- of literal keys the test is `refl`
pub in_order-table : (fs : List Field) → keys_ascend fs ≡ true → in_order fs ≡ fs
in_order-table fs h = placed_all-ascending [] fs (keys_ascend-holds fs h)
