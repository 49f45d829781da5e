-- Counts of entries by their names, up to an index.
use Rattle.std.proofs.Common.{◌≡◌, ℕ, ◌+◌, ◌<◌, ◌≤◌, Bool, true, false, List, length, take, map}
use Rattle.std.proofs.Common.{get_or, slice_get, Some, refl, sym, ap, ◌∙◌, arith, count_by}
use Rattle.std.proofs.lemmas.List.Sums.{count_by_more_yes, count_by_more_no}
use Rattle.std.proofs.lemmas.Option.{slice_get-map, slice_get-get_or}
use Rattle.std.specs.Int.{from_bool}
use Rattle.std.specs.Option.{option_map}
use Rattle.rec_container.specs.Container.{Entry}

-- a part of the entry at an index
part_at : (f : Entry → List ℕ) (es : List Entry) (i : ℕ) (part : List ℕ) (d : Entry) → i < length es
    → slice_get (map f es) i ≡ Some part → f (get_or es i d) ≡ part
part_at f es i part d h is =
    let same : Some (f (get_or es i d)) ≡ Some part =
    sym (slice_get-map f es i ∙ ap (option_map f) (slice_get-get_or es i d h)) ∙ is in
    cc

-- one entry more is counted, where its name passes
pub counted_more : (test : List ℕ → Bool) (es : List Entry) (i count : ℕ) (name : List ℕ)
    (d : Entry)
    → i < length es → slice_get (map (λ (e : Entry). e.name) es) i ≡ Some name
    → count ≡ count_by (λ (e : Entry). test e.name) (take i es) → (more : ℕ)
    → more ≡ from_bool (test name)
    → count + more ≡ count_by (λ (e : Entry). test e.name) (take (i + 1) es)
counted_more test es i count name d h is so_far more from = by (test name) refl
  where
    same : test (get_or es i d).name ≡ test name
    same = ap test (part_at (λ (e : Entry). e.name) es i name d h is)

    by : (b : Bool) → test name ≡ b
        → count + more ≡ count_by (λ (e : Entry). test e.name) (take (i + 1) es)
    by true e =
        ap (λ n. count + n) (from ∙ ap from_bool e) ∙ ap (λ n. n + 1) so_far
        ∙ sym (count_by_more_yes (λ (e : Entry). test e.name) es i d h (same ∙ e))
    by false e =
        let none : count + 0 ≡ count = omega arith in
        ap (λ n. count + n) (from ∙ ap from_bool e) ∙ none ∙ so_far
        ∙ sym (count_by_more_no (λ (e : Entry). test e.name) es i d h (same ∙ e))

-- no more are counted than there are
pub not_above : (b : Bool) (count i more : ℕ) → count ≤ i → more ≡ from_bool b
    → count + more ≤ i + 1
not_above true count i more h from = let one : more ≡ 1 = from in omega (arith, h, one)
not_above false count i more h from = let none : more ≡ 0 = from in omega (arith, h, none)
