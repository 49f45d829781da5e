-- Where a name can stand among names that ascend, by the comparison with one of them.
use Rattle.std.proofs.Common.{◌≡◌, ◌<◌, ◌+◌, ℕ, List, get_or, Some, None, Equal, Less, Greater}
use Rattle.std.proofs.Common.{nat_cmp, sym, ap, subst, ◌∙◌, ◌⊎◌, inl, inr, arith, slice_get, Bor}
use Rattle.std.proofs.lemmas.Cmp.{nat_list_cmp_total, eq_by_cmp_equiv, on_total}
use Rattle.std.proofs.lemmas.Map.Entries.{lookup_from_place, lookup_at_gap}
use Rattle.std.proofs.lemmas.Map.Keys.{Less-from_sorted, IsDistinct-from_sorted}
use Rattle.std.proofs.lemmas.Map.Text.{is_eq-slice_cmp}
use Rattle.std.proofs.lemmas.Option.{slice_get-map, slice_get_within, get_or_from_slice_get}
use Rattle.std.proofs.lemmas.Slice.Eq.{bytes_eq-Decides}
use Rattle.std.specs.Cmp.Lexicographic.{slice_cmp}
use Rattle.std.specs.Cmp.{IsTotalOrder}
use Rattle.std.specs.Map.{keys_of, lookup}
use Rattle.std.specs.Option.{option_map}
use Rattle.std.specs.Ordering.{is_eq, ordering_reverse}
use Rattle.rec_container.specs.Sorted.{Contents, Ascend, is_named, name_cmp}

-- what is at the place `from` or after it, and before the place `to`, is all that may have the name
pub record IsBetween (contents : Contents) (name : List ℕ) (from to : ℕ) : Type 0 where
  pub before : (i : ℕ) (e : Bor (List ℕ) × Bor (List ℕ)) → i < from → slice_get contents i ≡ Some e
      → slice_cmp nat_cmp name e.0.now ≡ Greater
  pub after : (e : Bor (List ℕ) × Bor (List ℕ)) → slice_get contents to ≡ Some e
      → slice_cmp nat_cmp name e.0.now ≡ Less

names_total : IsTotalOrder name_cmp
names_total = on_total (λ (k : Bor (List ℕ)). k.now) nat_list_cmp_total

-- the name of an entry, wherever it lies
at : List ℕ → Bor (List ℕ)
at name = record { ref_ptr = (0, 0); now = name }

key_at : (contents : Contents) (i : ℕ) (e : Bor (List ℕ) × Bor (List ℕ))
    → slice_get contents i ≡ Some e → slice_get (keys_of contents) i ≡ Some e.0
key_at contents i e is =
    slice_get-map (λ (e : Bor (List ℕ) × Bor (List ℕ)). e.0) contents i
    ∙ ap (option_map (λ (e : Bor (List ℕ) × Bor (List ℕ)). e.0)) is

ascends : (contents : Contents) (i j : ℕ) (d e : Bor (List ℕ) × Bor (List ℕ)) → Ascend contents
    → i < j → slice_get contents i ≡ Some d → slice_get contents j ≡ Some e
    → name_cmp d.0 e.0 ≡ Less
ascends contents i j d e sorted before at_i at_j =
    let ks = keys_of contents in
    let first = get_or_from_slice_get ks i d.0 d.0 (key_at contents i d at_i) in
    let second = get_or_from_slice_get ks j e.0 d.0 (key_at contents j e at_j) in
    let below = Less-from_sorted name_cmp ks i j d.0 sorted before
    (slice_get_within ks j e.0 (key_at contents j e at_j)) in
    sym (ap (λ k. name_cmp k e.0) first) ∙ sym (ap (name_cmp (get_or ks i d.0)) second) ∙ below

some_same : (d e : Bor (List ℕ) × Bor (List ℕ)) → Some d ≡ Some e → d ≡ e
some_same d e h = let k = h in cc

turned : (a b : List ℕ) → slice_cmp nat_cmp a b ≡ Greater → slice_cmp nat_cmp b a ≡ Less
turned a b h = nat_list_cmp_total.antisymm b a ∙ ap ordering_reverse h

turned_back : (a b : List ℕ) → slice_cmp nat_cmp a b ≡ Less → slice_cmp nat_cmp b a ≡ Greater
turned_back a b h = nat_list_cmp_total.antisymm b a ∙ ap ordering_reverse h

at_or_before : (i j : ℕ) → i < j + 1 → (i ≡ j) ⊎ (i < j)
at_or_before i j h = grind arith

-- a name after one entry is after all before it
pub after_all : (contents : Contents) (name : List ℕ) (i : ℕ) (d : Bor (List ℕ) × Bor (List ℕ))
    → Ascend contents → slice_get contents i ≡ Some d → slice_cmp nat_cmp name d.0.now ≡ Greater
    → (j : ℕ) (e : Bor (List ℕ) × Bor (List ℕ)) → j < i + 1 → slice_get contents j ≡ Some e
    → slice_cmp nat_cmp name e.0.now ≡ Greater
after_all contents name i d sorted stands greater j e before is = by (at_or_before j i before)
  where
    by : (j ≡ i) ⊎ (j < i) → slice_cmp nat_cmp name e.0.now ≡ Greater
    by (inl same) =
        subst (λ (x : Bor (List ℕ) × Bor (List ℕ)). slice_cmp nat_cmp name x.0.now ≡ Greater)
        (some_same d e (sym stands ∙ ap (slice_get contents) (sym same) ∙ is)) greater
    by (inr less) =
        turned_back e.0.now name (nat_list_cmp_total.trans e.0.now d.0.now name
        (ascends contents j i e d sorted less is stands) (turned name d.0.now greater))

same_name : (a b : List ℕ) → slice_cmp nat_cmp a b ≡ Equal → a ≡ b
same_name a b h = (bytes_eq-Decides a b).0 (sym (is_eq-slice_cmp a b) ∙ ap is_eq h)

-- the entry of an equal name is the one that is found
pub found_at : (contents : Contents) (name : List ℕ) (i : ℕ) (held content : Bor (List ℕ))
    → Ascend contents → slice_get contents i ≡ Some (held, content)
    → slice_cmp nat_cmp name held.now ≡ Equal
    → Some content ≡ lookup (is_named name) contents
found_at contents name i held content sorted stands equal =
    let there = lookup_from_place (eq_by_cmp_equiv names_total) contents i held content
    (IsDistinct-from_sorted name_cmp (keys_of contents) sorted) stands in
    subst (λ n. Some content ≡ lookup (is_named n) contents) (sym (same_name name held.now equal))
    (sym there)

-- a name that is below an entry is below what stands at its place
pub before_it : (contents : Contents) (name : List ℕ) (i : ℕ) (d : Bor (List ℕ) × Bor (List ℕ))
    → slice_get contents i ≡ Some d → slice_cmp nat_cmp name d.0.now ≡ Less
    → (e : Bor (List ℕ) × Bor (List ℕ)) → slice_get contents i ≡ Some e
    → slice_cmp nat_cmp name e.0.now ≡ Less
before_it contents name i d stands less e is =
    subst (λ (x : Bor (List ℕ) × Bor (List ℕ)). slice_cmp nat_cmp name x.0.now ≡ Less)
    (some_same d e (sym stands ∙ is)) less

-- nothing is found where no entry is left
pub none_between : (contents : Contents) (name : List ℕ) (from to : ℕ) → Ascend contents
    → IsBetween contents name from to → from ≡ to → None ≡ lookup (is_named name) contents
unfolding at
none_between contents name from to sorted between same =
    sym (lookup_at_gap names_total (at name) contents from sorted between.before
    (λ e is. between.after e (ap (slice_get contents) (sym same) ∙ is)))
