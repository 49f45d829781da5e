-- Filters over a list of spans and over their marks.
use Rattle.std.proofs.Common.{◌≡◌, Bool, true, false, cond, List}
use Rattle.std.proofs.Common.{[], ◌∷◌, filter, ℤ, refl, sym, ◌∙◌}
use Rattle.rec_trace_events.specs.declared.rows.Row.{Row}
use Rattle.rec_spans.specs.declared.spans.Phase.{Phase}
use Rattle.rec_spans.specs.declared.spans.Span.{Span}
use Rattle.rec_spans.specs.Keys.{row_eq}
use Rattle.rec_spans.specs.Past.{in_row, put_in, mark, marks}
use Rattle.rec_spans.specs.Places.{place_lt}
use Rattle.rec_spans.specs.Turns.{on_row}

-- a filter that lets the head through
pub filter-yes : {X : Type 0} (p : X → Bool) (x : X) (xs : List X) → p x ≡ true
    → filter p (x ∷ xs) ≡ x ∷ filter p xs
filter-yes p x xs h = rw h

-- a filter that stops the head
pub filter-no : {X : Type 0} (p : X → Bool) (x : X) (xs : List X) → p x ≡ false
    → filter p (x ∷ xs) ≡ filter p xs
filter-no p x xs h = rw h

-- a filter that leaves nothing lets no element through
pub filter-none : {X : Type 0} (p : X → Bool) (x : X) (xs : List X) → filter p (x ∷ xs) ≡ []
    → (p x ≡ false) × (filter p xs ≡ [])
filter-none p x xs e = go (p x) refl
  where
    go : (b : Bool) → p x ≡ b → (p x ≡ false) × (filter p xs ≡ [])
    go true h = let f : x ∷ filter p xs ≡ [] = sym (filter-yes p x xs h) ∙ e in (cc, cc)
    go false h = (h, sym (filter-no p x xs h) ∙ e)

-- two filters in either order
pub filter_comm : {X : Type 0} (p q : X → Bool) (xs : List X)
    → filter p (filter q xs) ≡ filter q (filter p xs)
filter_comm p q [] = refl
filter_comm p q (x ∷ xs) = go (p x) (q x) refl refl (filter_comm p q xs)
  where
    go : (a b : Bool) → p x ≡ a → q x ≡ b → filter p (filter q xs) ≡ filter q (filter p xs)
        → filter p (filter q (x ∷ xs)) ≡ filter q (filter p (x ∷ xs))
    go true true ha hb ih = simp (ha, hb, ih)
    go true false ha hb ih = simp (ha, hb, ih)
    go false true ha hb ih = simp (ha, hb, ih)
    go false false ha hb ih = simp (ha, hb, ih)

-- a span put in that a filter stops
pub filter-put_no : (p : Span → Bool) (s : Span) (xs : List Span) → p s ≡ false
    → filter p (put_in s xs) ≡ filter p xs
filter-put_no p s [] h = rw h
filter-put_no p s (x ∷ xs) h =
    let ih = filter-put_no p s xs h in
    elim (place_lt s.place x.place)
    as (λ b. filter p (cond b (s ∷ x ∷ xs) (x ∷ put_in s xs)) ≡ filter p (x ∷ xs)) [
      | true ↦ rw h refl
      | false ↦ rw ih refl
    ]

-- a span put in that a filter lets through, where it stops all others
pub filter-put_yes : (p : Span → Bool) (s : Span) (xs : List Span) → p s ≡ true → filter p xs ≡ []
    → filter p (put_in s xs) ≡ s ∷ []
filter-put_yes p s [] h e = rw h
filter-put_yes p s (x ∷ xs) h e =
    let n = filter-none p x xs e in
    let ih = filter-put_yes p s xs h n.1 in
    let no : p x ≡ false = n.0 in
    let rest : filter p xs ≡ [] = n.1 in
    elim (place_lt s.place x.place)
    as (λ b. filter p (cond b (s ∷ x ∷ xs) (x ∷ put_in s xs)) ≡ s ∷ []) [
      | true ↦ simp (h, no, rest)
      | false ↦ simp (no, ih)
    ]

-- the marks on a row are those of the spans in it
pub on_row-marks : (r : Row) (p : Phase) (t : ℤ) (xs : List Span)
    → on_row r (marks p t xs) ≡ marks p t (in_row r xs)
on_row-marks r p t [] = refl
on_row-marks r p t (x ∷ xs) =
    let ih = on_row-marks r p t xs in
    elim (row_eq x.row r)
    as (λ b. cond b (mark p t x ∷ on_row r (marks p t xs)) (on_row r (marks p t xs))
    ≡ marks p t (cond b (x ∷ in_row r xs) (in_row r xs)))
    [ true ↦ rw ih refl | false ↦ ih ]
