-- What slices add up to.
use Rattle.std.proofs.Common.{◌≡◌, ◌≤◌, ℕ, zero, suc, ◌+◌, ◌-◌, ℤ, pos, ◌+ℤ◌, ◌-ℤ◌, Bool, true}
use Rattle.std.proofs.Common.{false, not, ◌&&◌, nat_lt, length, List, [], ◌∷◌, ◌++◌, map, refl}
use Rattle.std.proofs.Common.{ap, sym, ◌∙◌}
use Rattle.std.proofs.Common.{arith, Option, Some, None, if◌then◌else◌}
use Rattle.std.proofs.lemmas.Int.{ints}
use Rattle.std.proofs.lemmas.List.{map-append}
use Rattle.std.specs.Option.{unwrap_or}
use Rattle.rec_spans.specs.Past.{TraceInput}
use Rattle.rec_spans.specs.Times.{total}
use Rattle.rec_slots.specs.Gaps.GapKind.{busy, idle, paused}
use Rattle.rec_slots.specs.Gaps.{GapKind, gap_kind, time_in, time_of}
use Rattle.rec_slots.specs.Gaps.{AddsUp}
use Rattle.rec_view.specs.Laws.{SlicesAddUp}
use Rattle.rec_view.specs.Slices.{active, all_slices, close, in_pause, instant_if, lasting, moment}
use Rattle.rec_view.specs.Slices.{paused_for, shown, slices, stretches}

pub total-append : (xs ys : List ℤ) → total (xs ++ ys) ≡ total xs +ℤ total ys
total-append [] ys = (let g : (y : ℤ) → y ≡ pos 0 +ℤ y = λ y. omega (arith, ints) in g (total ys))
total-append (x ∷ xs) ys =
    ap (λ t. x +ℤ t) (total-append xs ys)
    ∙ (let g : (a b c : ℤ) → a +ℤ (b +ℤ c) ≡ (a +ℤ b) +ℤ c = λ a b c. omega (arith, ints) in
    g x (total xs) (total ys))

module _ (t : ℕ → ℤ) (kind : ℕ → GapKind) where
  -- the first gap apart
  first_gap : (k : GapKind) (a n : ℕ)
      → time_of t kind k a (suc n) ≡ time_in t kind k a +ℤ time_of t kind k (suc a) n
  first_gap k a zero =
      ap (λ i. pos 0 +ℤ time_in t kind k i) (omega arith)
      ∙ (let g : (x : ℤ) → pos 0 +ℤ x ≡ x +ℤ pos 0 = λ x. omega (arith, ints) in
      g (time_in t kind k a))
  first_gap k a (suc n) =
      ap (λ x. x +ℤ time_in t kind k (a + suc n)) (first_gap k a n)
      ∙ ap (λ i. (time_in t kind k a +ℤ time_of t kind k (suc a) n) +ℤ time_in t kind k i)
      (omega arith)
      ∙ (let g : (x y z : ℤ) → (x +ℤ y) +ℤ z ≡ x +ℤ (y +ℤ z) = λ x y z. omega (arith, ints) in
      g (time_in t kind k a) (time_of t kind k (suc a) n) (time_in t kind k (suc a + n)))

abbrev shown_kind : (ℕ → Bool) → ℕ → GapKind
shown_kind passes j = gap_kind (not (passes j)) true

abbrev carried : (ℕ → ℤ) → Option ℕ → ℕ → ℤ
carried t None a = pos 0
carried t (Some x) a = t a -ℤ t x

module _ (t : ℕ → ℤ) (passes : ℕ → Bool) where
  closed : (o : Option ℕ) (a : ℕ) → total (map (lasting t) (close o a)) ≡ carried t o a
  closed None a = refl
  closed (Some x) a =
      (let g : (y : ℤ) → y +ℤ pos 0 ≡ y = λ y. omega (arith, ints) in g (t a -ℤ t x))

  busy_in : (j : ℕ) (b : Bool) → passes j ≡ b
      → time_in t (shown_kind passes) busy j ≡ (if b then t (suc j) -ℤ t j else pos 0)
  busy_in j true e = rw e refl
  busy_in j false e = rw e refl

  pub sums : (o : Option ℕ) (a n : ℕ)
      → total (map (lasting t) (stretches passes o a n))
      ≡ carried t o a +ℤ time_of t (shown_kind passes) busy a n
  sums o a zero =
      closed o a ∙ (let g : (y : ℤ) → y ≡ y +ℤ pos 0 = λ y. omega (arith, ints) in
      g (carried t o a))
  sums o a (suc n) = by (passes a) refl (λ x. sums (Some x) (suc a) n) (sums None (suc a) n)
    where
      start_of : Option ℕ → ℕ
      start_of None = a
      start_of (Some x) = x

      by : (b : Bool) → passes a ≡ b
          → ((x : ℕ) → total (map (lasting t) (stretches passes (Some x) (suc a) n))
          ≡ carried t (Some x) (suc a) +ℤ time_of t (shown_kind passes) busy (suc a) n)
          → (total (map (lasting t) (stretches passes None (suc a) n))
          ≡ pos 0 +ℤ time_of t (shown_kind passes) busy (suc a) n)
          → total (map (lasting t) (if b then stretches passes (Some (unwrap_or o a)) (suc a) n
          else close o a ++ stretches passes None (suc a) n))
          ≡ carried t o a +ℤ time_of t (shown_kind passes) busy a (suc n)
      by true e more none = more (unwrap_or o a) ∙ one o
          ∙ ap (λ x. carried t o a +ℤ (x +ℤ time_of t (shown_kind passes) busy (suc a) n))
          (sym (busy_in a true e))
          ∙ ap (λ x. carried t o a +ℤ x) (sym (first_gap t (shown_kind passes) busy a n))
        where
          one : (o : Option ℕ) → carried t (Some (unwrap_or o a)) (suc a)
              +ℤ time_of t (shown_kind passes) busy (suc a) n
              ≡ carried t o a +ℤ ((t (suc a) -ℤ t a)
              +ℤ time_of t (shown_kind passes) busy (suc a) n)
          one None =
              (let g : (x y : ℤ) → x +ℤ y ≡ pos 0 +ℤ (x +ℤ y) = λ x y. omega (arith, ints) in
              g (t (suc a) -ℤ t a) (time_of t (shown_kind passes) busy (suc a) n))
          one (Some x) =
              (let g : (u v w y : ℤ) → (u -ℤ w) +ℤ y ≡ (v -ℤ w) +ℤ ((u -ℤ v) +ℤ y) =
              λ u v w y. omega (arith, ints) in
              g (t (suc a)) (t a) (t x) (time_of t (shown_kind passes) busy (suc a) n))
      by false e more none =
          ap total (map-append (lasting t) (close o a) (stretches passes None (suc a) n))
          ∙ total-append (map (lasting t) (close o a))
          (map (lasting t) (stretches passes None (suc a) n))
          ∙ ap (λ x. x +ℤ total (map (lasting t) (stretches passes None (suc a) n))) (closed o a)
          ∙ ap (λ x. carried t o a +ℤ x)
          (none ∙ ap (λ x. x +ℤ time_of t (shown_kind passes) busy (suc a) n)
          (sym (busy_in a false e)) ∙ sym (first_gap t (shown_kind passes) busy a n))

  idle_in : (j : ℕ) (b : Bool) → passes j ≡ b → time_in t (shown_kind passes) idle j ≡ pos 0
  idle_in j true e = rw e refl
  idle_in j false e = rw e refl

  no_idle : (a n : ℕ) → time_of t (shown_kind passes) idle a n ≡ pos 0
  no_idle a zero = refl
  no_idle a (suc n) =
      ap (λ x. x +ℤ time_in t (shown_kind passes) idle (a + n)) (no_idle a n)
      ∙ ap (λ x. pos 0 +ℤ x) (idle_in (a + n) (passes (a + n)) refl)

slices_total : (history : List TraceInput) (a z : ℕ)
    → total (map (lasting (moment history)) (slices history a z)) ≡ active history a z
slices_total history a z =
    sums (moment history) (shown history) None a (z - a)
    ∙ (let g : (x : ℤ) → pos 0 +ℤ x ≡ x = λ x. omega (arith, ints) in g (active history a z))

-- an instant has no length
no_time : (t : ℕ → ℤ) (b : Bool) (i : ℕ) → total (map (lasting t) (instant_if b i)) ≡ pos 0
no_time t true i =
    (let g : (x : ℤ) → (x -ℤ x) +ℤ pos 0 ≡ pos 0 = λ x. omega (arith, ints) in g (t i))
no_time t false i = refl

-- so with the instants at a start and at an end in a pause
pub all_slices_total : (history : List TraceInput) (a z : ℕ)
    → total (map (lasting (moment history)) (all_slices history a z)) ≡ active history a z
all_slices_total history a z =
    ap total (map-append l (start ++ slices history a z) end)
    ∙ total-append (map l (start ++ slices history a z)) (map l end)
    ∙ ap (λ x. x +ℤ total (map l end)) (ap total (map-append l start (slices history a z))
    ∙ total-append (map l start) (map l (slices history a z)))
    ∙ (let g : (x y w v : ℤ) → x ≡ pos 0 → y ≡ v → w ≡ pos 0 → (x +ℤ y) +ℤ w ≡ v =
    λ x y w v e f h. omega (arith, ints) in
    g (total (map l start)) (total (map l (slices history a z))) (total (map l end))
    (active history a z) (no_time (moment history) (in_pause history a) a)
    (slices_total history a z)
    (no_time (moment history) (nat_lt z (length history) && in_pause history z) z))
  where
    l : ℕ × ℕ → ℤ
    l = lasting (moment history)

    start : List (ℕ × ℕ)
    start = instant_if (in_pause history a) a

    end : List (ℕ × ℕ)
    end = instant_if (nat_lt z (length history) && in_pause history z) z

pub slices_sum : ((instant : ℕ → ℤ) (kind : ℕ → GapKind) (a n : ℕ)
    → AddsUp instant kind a n (time_of instant kind busy a n) (time_of instant kind paused a n)
    (time_of instant kind idle a n)) → (history : List TraceInput) (a z : ℕ) → a ≤ z
    → SlicesAddUp history a z
slices_sum gaps history a z h = record {
  sum = slices_total history a z;
  all = all_slices_total history a z;
  rest = let all = (gaps (moment history) (shown_kind (shown history)) a (z - a)).sum in
      let none = no_idle (moment history) (shown history) a (z - a) in
      let end : moment history (a + (z - a)) ≡ moment history z =
      ap (moment history) (omega (arith, h)) in
      let g : (b p i u v w : ℤ) → (b +ℤ p) +ℤ i ≡ u -ℤ v → i ≡ pos 0 → u ≡ w → b ≡ (w -ℤ v) -ℤ p =
      λ b p i u v w x y z. omega (arith, ints) in
      g (active history a z) (paused_for history a z)
      (time_of (moment history) (shown_kind (shown history)) idle a (z - a))
      (moment history (a + (z - a))) (moment history a) (moment history z) all none end;
}
