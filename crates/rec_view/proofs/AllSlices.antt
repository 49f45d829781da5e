-- The lists of slices and of pauses have exactly what the definitions by positions say.
use Rattle.std.proofs.Common.{◌≡◌, ◌≤◌, ◌<◌, ◌⊎◌, ◌↔◌, ◌-◌, inl, inr, ℕ, zero, suc, Bool, true}
use Rattle.std.proofs.Common.{false, ◌&&◌, not, nat_lt, List, ◌++◌, length, refl, ap, sym, ◌∙◌}
use Rattle.std.proofs.Common.{arith, None, subst}
use Rattle.std.proofs.lemmas.Bool.Decides.{nat_tests}
use Rattle.rec_spans.proofs.EventMarks.{Has-append}
use Rattle.rec_spans.proofs.PlacesOfHistory.{pause-is}
use Rattle.rec_spans.specs.Past.{TraceInput, is_paused}
use Rattle.rec_spans.specs.Positions.IsSlice.{stretch, at_start, at_end}
use Rattle.rec_spans.specs.Positions.{Has, IsInPause, IsSlice, past_at}
use Rattle.rec_spans.specs.Times.{Window}
use Rattle.rec_view.proofs.Attempts.{differ}
use Rattle.rec_view.proofs.Stretches.{Later, found, slices_are}
use Rattle.rec_view.specs.Slices.{IsPause, all_slices, in_pause, instant_if, pauses, shown, slices}

and_left : (a b : Bool) → (a && b) ≡ true → a ≡ true
and_left true b h = refl
and_left false b h = differ (sym h)

and_right : (a b : Bool) → (a && b) ≡ true → b ≡ true
and_right true b h = h
and_right false b h = differ (sym h)

-- an instant is there if it is wanted
instant_to : (b : Bool) (i x y : ℕ) → Has (instant_if b i) (x, y)
    → (b ≡ true) × ((i ≡ x) × (i ≡ y))
instant_to true i x y (inl e) =
    (refl, (ap (λ (s : ℕ × ℕ). s.0) e, ap (λ (s : ℕ × ℕ). s.1) e))
instant_to true i x y (inr none) = absurd none
instant_to false i x y none = absurd none

instant_from : (b : Bool) (i : ℕ) → b ≡ true → Has (instant_if b i) (i, i)
instant_from true i e = inl refl
instant_from false i e = differ (sym e)

-- ---- slices

module _ (history : List TraceInput) (a z : ℕ) (order : a ≤ z) (last : z ≤ length history) where
  abbrev ends : Bool
  ends = nat_lt z (length history) && in_pause history z

  abbrev first_two : List (ℕ × ℕ)
  first_two = instant_if (in_pause history a) a ++ slices history a z

  to_slice : (x y : ℕ) → Has (all_slices history a z) (x, y) → IsSlice history a z x y
  to_slice x y has = by ((Has-append first_two (instant_if ends z) (x, y)).0 has)
    where
      moved : (i : ℕ) → (i ≡ x) × (i ≡ y) → IsSlice history a z i i → IsSlice history a z x y
      moved i (e, f) s =
          subst (λ k. IsSlice history a z x k) f (subst (λ k. IsSlice history a z k i) e s)

      early : Has (instant_if (in_pause history a) a) (x, y) ⊎ Has (slices history a z) (x, y)
          → IsSlice history a z x y
      early (inl start) =
          let is = instant_to (in_pause history a) a x y start in
          moved a is.1 (at_start ((pause-is history a (omega (arith, order, last))).1 is.0))
      early (inr one) = stretch ((slices_are history a z x y order last).0 one)

      by : Has first_two (x, y) ⊎ Has (instant_if ends z) (x, y) → IsSlice history a z x y
      by (inl two) =
          early ((Has-append (instant_if (in_pause history a) a) (slices history a z) (x, y)).0 two)
      by (inr end) =
          let is = instant_to ends z x y end in
          let test : nat_lt z (length history) ≡ true =
          and_left (nat_lt z (length history)) (in_pause history z) is.0 in
          moved z is.1 (at_end (grind (arith, nat_tests)) ((pause-is history z last).1
          (and_right (nat_lt z (length history)) (in_pause history z) is.0)))

  early_slice : (x y : ℕ) → Has first_two (x, y) → Has (all_slices history a z) (x, y)
  early_slice x y has = (Has-append first_two (instant_if ends z) (x, y)).1 (inl has)

  from_slice : (x y : ℕ) → IsSlice history a z x y → Has (all_slices history a z) (x, y)
  from_slice x y (stretch s) =
      early_slice x y
      ((Has-append (instant_if (in_pause history a) a) (slices history a z) (x, y)).1
      (inr ((slices_are history a z x y order last).1 s)))
  from_slice x y (at_start p) =
      early_slice a a
      ((Has-append (instant_if (in_pause history a) a) (slices history a z) (a, a)).1
      (inl (instant_from (in_pause history a) a
      ((pause-is history a (omega (arith, order, last))).0 p))))
  from_slice x y (at_end lt p) =
      (Has-append first_two (instant_if ends z) (z, z)).1
      (inr (instant_from ends z (ap (λ b. b && in_pause history z) test
      ∙ (pause-is history z last).0 p)))
    where
      test : nat_lt z (length history) ≡ true
      test = grind (arith, nat_tests)

  pub all_are : (x y : ℕ) → Has (all_slices history a z) (x, y) ↔ IsSlice history a z x y
  all_are x y = (to_slice x y, from_slice x y)

-- ---- pauses

module _ (history : List TraceInput) where
  abbrev n : ℕ
  n = length history

  abbrev hidden : ℕ → Bool
  hidden j = not (shown history j)

  twice_true : (b : Bool) → not (not b) ≡ true → b ≡ true
  twice_true true e = e
  twice_true false e = e

  twice_false : (b : Bool) → not (not b) ≡ false → b ≡ false
  twice_false true e = e
  twice_false false e = e

  is_hidden : (j : ℕ) → j < n → hidden j ≡ true → IsInPause history (suc j)
  is_hidden j lt e =
      (pause-is history (suc j) (omega (arith, lt))).1
      (twice_true (is_paused (past_at history (suc j))) e)

  hides : (j : ℕ) → j < n → IsInPause history (suc j) → hidden j ≡ true
  hides j lt p =
      ap (λ b. not (not b)) ((pause-is history (suc j) (omega (arith, lt))).0 p)

  never : (j : ℕ) → j < n → hidden j ≡ false → IsInPause history (suc j) → ⊥
  never j lt e p = differ (sym (hides j lt p) ∙ e)

  shows : (j : ℕ) → j < n → (IsInPause history (suc j) → ⊥) → hidden j ≡ false
  shows j lt none = by (hidden j) refl
    where
      by : (b : Bool) → hidden j ≡ b → b ≡ false
      by true e = absurd (none (is_hidden j lt e))
      by false e = refl

  before : (x : ℕ) → x ≤ n → 0 < x → ((j : ℕ) → suc j ≡ x → hidden j ≡ false)
      → IsInPause history x → ⊥
  before zero le lt prior p = absurd (omega (arith, lt))
  before (suc j) le lt prior p = never j (omega (arith, le)) (prior j refl) p

  to_pause : (w : Window) → Later hidden 0 n w.from w.to → IsPause history w
  to_pause w l = let r = l.run in let s = r.some in let t = r.to in record {
    after_start = l.from;
    some = s;
    before_end = t;
    hidden = λ j h k. is_hidden j (omega (arith, k, t)) (r.all j h k);
    shown_before = λ h. before w.from (omega (arith, s, t)) h (λ j e. l.prior j e (omega arith));
    shown_after = λ h. never w.to h (r.next h);
  }

  from_pause : (w : Window) → IsPause history w → Later hidden 0 n w.from w.to
  from_pause w p = let s = p.some in let t = p.before_end in record {
    from = p.after_start;
    prior = λ j e h. shows j (omega (arith, e, s, t))
        (λ q. p.shown_before (omega (arith, e)) (subst (IsInPause history) e q));
    run = record {
      some = s;
      to = t;
      all = λ j h k. hides j (omega (arith, k, t)) (p.hidden j h k);
      next = λ h. shows w.to h (p.shown_after h);
    };
  }

  pub pauses_are : (w : Window) → Has (pauses history) (w.from, w.to) ↔ IsPause history w
  pauses_are w =
      let f = found hidden w.from w.to None 0 (n - 0) n (omega arith) in
      ((λ has. to_pause w (f.0 has)), (λ p. f.1 (from_pause w p)))
