-- The list of slices has exactly the longest stretches outside pauses.
use Rattle.std.proofs.Common.{◌≡◌, ◌≤◌, ◌<◌, ◌⊎◌, ◌↔◌, inl, inr, ℕ, zero, suc, ◌+◌, ◌-◌, Bool}
use Rattle.std.proofs.Common.{true, false, not, List, ◌++◌, length, refl, ap, sym, ◌∙◌}
use Rattle.std.proofs.Common.{arith, Option, Some, None, subst, if◌then◌else◌}
use Rattle.std.specs.Option.{unwrap_or}
use Rattle.rec_spans.proofs.PlacesOfHistory.{pause-is}
use Rattle.rec_spans.specs.Past.{TraceInput, is_paused}
use Rattle.rec_spans.specs.Positions.{Has, IsInPause, IsShown, IsStretch, past_at}
use Rattle.rec_view.specs.Slices.{close, shown, slices, stretches}

differ : {X : Type 0} → true ≡ false → X
differ h = absurd (grind (arith, h))

module _ (passes : ℕ → Bool) where
  pub record Run (z x y : ℕ) : Type 0 where
    pub some : x < y
    pub to : y ≤ z
    pub all : (j : ℕ) → x ≤ j → j < y → passes j ≡ true
    pub next : y < z → passes y ≡ false

  pub record Later (a z x y : ℕ) : Type 0 where
    pub from : a ≤ x
    pub prior : (j : ℕ) → suc j ≡ x → a ≤ j → passes j ≡ false
    pub run : Run z x y

  pub record First (h a z x y : ℕ) : Type 0 where
    pub is : x ≡ h
    pub from : a ≤ y
    pub to : y ≤ z
    pub all : (j : ℕ) → a ≤ j → j < y → passes j ≡ true
    pub next : y < z → passes y ≡ false

  abbrev pub Found : Option ℕ → ℕ → ℕ → ℕ → ℕ → Type 0
  Found None a z x y = Later a z x y
  Found (Some h) a z x y = First h a z x y ⊎ ((a < x) × Later a z x y)

  module _ (x y : ℕ) where
    -- no gap is left
    done_to : (held : Option ℕ) (a : ℕ) → Has (close held a) (x, y) → Found held a a x y
    done_to None a has = absurd has
    done_to (Some h) a (inl e) =
        let p : h ≡ x = ap (λ (s : ℕ × ℕ). s.0) e in
        let q : a ≡ y = ap (λ (s : ℕ × ℕ). s.1) e in
        inl (record {
          is = sym p;
          from = omega (arith, q);
          to = omega (arith, q);
          all =
              λ j l m. absurd (omega (arith, l, m, q));
          next = λ l. absurd (omega (arith, l, q));
        })
    done_to (Some h) a (inr w) = absurd w

    done_from : (held : Option ℕ) (a : ℕ) → Found held a a x y → Has (close held a) (x, y)
    done_from None a l = let r = l.run in let s = r.some in let t = r.to in let f = l.from in
        absurd (omega (arith, s, t, f))
    done_from (Some h) a (inl f) = let p = f.is in
        let q : a ≡ y = (let u = f.from in let t = f.to in omega (arith, u, t)) in
        inl (λ i. (sym p i, q i))
    done_from (Some h) a (inr (lt, l)) = let r = l.run in let s = r.some in let t = r.to in
        absurd (omega (arith, s, t, lt))

    all_from : (a : ℕ) → passes a ≡ true → ((j : ℕ) → suc a ≤ j → j < y → passes j ≡ true) → (j : ℕ)
        → a ≤ j → j < y → passes j ≡ true
    all_from a e more j l m =
        elim (at_or_past a j l) [ inl k ↦ subst (λ i. passes i ≡ true) k e | inr k ↦ more j k m ]
      where
        at_or_past : (a j : ℕ) → a ≤ j → (a ≡ j) ⊎ (suc a ≤ j)
        at_or_past a j l = grind arith

    split : (a b : ℕ) → a ≤ b → (a ≡ b) ⊎ (suc a ≤ b)
    split a b l = grind arith

    -- a gap that passes
    pass_to : (held : Option ℕ) (a z : ℕ) → a < z → passes a ≡ true
        → Found (Some (unwrap_or held a)) (suc a) z x y → Found held a z x y
    pass_to None a z lt e (inl f) = let is = f.is in let u = f.from in record {
      from = omega (arith, is);
      prior = λ j k l. absurd (omega (arith, k, l, is));
      run = record {
        some = omega (arith, is, u);
        to = f.to;
        all =
            λ j l m. all_from a e f.all j (omega (arith, l, is)) m;
        next = f.next;
      };
    }
    pass_to None a z lt e (inr (less, l)) =
        record {
          from = omega (arith, less);
          prior = λ j k m. l.prior j k (omega (arith, k, less));
          run = l.run;
        }
    pass_to (Some h) a z lt e (inl f) = let u = f.from in
        inl (record {
          is = f.is;
          from = omega (arith, u);
          to = f.to;
          all = all_from a e f.all;
          next = f.next;
        })
    pass_to (Some h) a z lt e (inr (less, l)) =
        inr (
          omega (arith, less),
          record {
            from = omega (arith, less);
            prior =
                λ j k m. l.prior j k (omega (arith, k, less));
            run = l.run;
          },
        )

    beyond : (a z : ℕ) → passes a ≡ true → a < x → Later a z x y → (suc a < x) × Later (suc a) z x y
    beyond a z e less l = elim (split (suc a) x less) [
      | inl k ↦ differ (sym e ∙ l.prior a k (omega arith))
      | inr k ↦ (
        k,
        record {
          from = omega (arith, k);
          prior =
              λ j m o. l.prior j m (omega (arith, o));
          run = l.run;
        },
      )
    ]

    pass_from : (held : Option ℕ) (a z : ℕ) → a < z → passes a ≡ true → Found held a z x y
        → Found (Some (unwrap_or held a)) (suc a) z x y
    pass_from None a z lt e l = elim (split a x l.from) [
      | inl k ↦ inl (record {
        is = sym k;
        from = (let s = l.run.some in omega (arith, s, k));
        to =
            l.run.to;
        all = λ j m o. l.run.all j (omega (arith, k, m)) o;
        next = l.run.next;
      })
      | inr k ↦ inr (beyond a z e k l)
    ]
    pass_from (Some h) a z lt e (inl f) = elim (split a y f.from) [
      | inl k ↦ differ (sym e ∙ subst (λ i. passes i ≡ false) (sym k)
          (f.next (omega (arith, lt, k))))
      | inr k ↦ inl (record {
        is = f.is;
        from = k;
        to = f.to;
        all =
            λ j m o. f.all j (omega (arith, m)) o;
        next = f.next;
      })
    ]
    pass_from (Some h) a z lt e (inr (less, l)) = inr (beyond a z e less l)

    -- a gap that doesn't
    past_gap : (a z : ℕ) → passes a ≡ false → Later (suc a) z x y → (a < x) × Later a z x y
    past_gap a z e l = let u = l.from in (
      omega (arith, u),
      record {
        from = omega (arith, u);
        prior = λ j k m. elim (split a j m)
            [ inl o ↦ subst (λ i. passes i ≡ false) o e | inr o ↦ l.prior j k o ];
        run = l.run;
      },
    )

    from_gap : (a z : ℕ) → passes a ≡ false → Later a z x y → Later (suc a) z x y
    from_gap a z e l = elim (split a x l.from) [
      | inl k ↦ differ (sym (l.run.all a (omega (arith, k))
          (let s = l.run.some in omega (arith, s, k))) ∙ e)
      | inr k ↦ record { from = k; prior = λ j m o. l.prior j m (omega (arith, o)); run = l.run }
    ]

    gap_to : (held : Option ℕ) (a z : ℕ) (more : List (ℕ × ℕ)) → a < z → passes a ≡ false
        → (Has more (x, y) → Later (suc a) z x y) → Has (close held a ++ more) (x, y)
        → Found held a z x y
    gap_to None a z more lt e ih has = (past_gap a z e (ih has)).1
    gap_to (Some h) a z more lt e ih (inl k) =
        let p : h ≡ x = ap (λ (s : ℕ × ℕ). s.0) k in
        let q : a ≡ y = ap (λ (s : ℕ × ℕ). s.1) k in
        inl (record {
          is = sym p;
          from = omega (arith, q);
          to = omega (arith, q, lt);
          all =
              λ j l m. absurd (omega (arith, l, m, q));
          next =
              λ l. subst (λ i. passes i ≡ false) q e;
        })
    gap_to (Some h) a z more lt e ih (inr w) = inr (past_gap a z e (ih w))

    gap_from : (held : Option ℕ) (a z : ℕ) (more : List (ℕ × ℕ)) → a < z → passes a ≡ false
        → (Later (suc a) z x y → Has more (x, y)) → Found held a z x y
        → Has (close held a ++ more) (x, y)
    gap_from None a z more lt e ih l = ih (from_gap a z e l)
    gap_from (Some h) a z more lt e ih (inl f) = elim (split a y f.from) [
      | inl k ↦ inl (λ i. (sym f.is i, k i))
      | inr k ↦ differ (sym (f.all a (omega arith) k) ∙ e)
    ]
    gap_from (Some h) a z more lt e ih (inr (less, l)) = inr (ih (from_gap a z e l))

    pub found : (held : Option ℕ) (a n z : ℕ) → a + n ≡ z
        → Has (stretches passes held a n) (x, y) ↔ Found held a z x y
    found held a zero z e =
        subst (λ w. Has (close held a) (x, y) ↔ Found held a w x y) (omega (arith, e))
        (done_to held a, done_from held a)
    found held a (suc n) z e =
        by (passes a) refl (found (Some (unwrap_or held a)) (suc a) n z (omega (arith, e)))
        (found None (suc a) n z (omega (arith, e)))
      where
        lt : a < z
        lt = omega (arith, e)

        by : (b : Bool) → passes a ≡ b
            → Has (stretches passes (Some (unwrap_or held a)) (suc a) n) (x, y)
            ↔ Found (Some (unwrap_or held a)) (suc a) z x y
            → Has (stretches passes None (suc a) n) (x, y) ↔ Later (suc a) z x y
            → Has (if b then stretches passes (Some (unwrap_or held a)) (suc a) n
            else close held a ++ stretches passes None (suc a) n) (x, y) ↔ Found held a z x y
        by true k some none =
            ((λ has. pass_to held a z lt k (some.0 has)), (λ f. some.1 (pass_from held a z lt k f)))
        by false k some none = (
          gap_to held a z (stretches passes None (suc a) n) lt k none.0,
          gap_from held a z (stretches passes None (suc a) n) lt k none.1,
        )

module _ (history : List TraceInput) (a z : ℕ) (last : z ≤ length history) (x y : ℕ) where
  is_shown : (j : ℕ) → j < z → shown history j ≡ true → IsShown history j
  is_shown j lt e paused =
      differ (sym e ∙ ap not ((pause-is history (suc j) (omega (arith, lt, last))).0 paused))

  -- the flag, by cases
  shows : (j : ℕ) → j < z → IsShown history j → shown history j ≡ true
  shows j lt s = by (is_paused (past_at history (suc j))) refl
    where
      by : (b : Bool) → is_paused (past_at history (suc j)) ≡ b → not b ≡ true
      by true e = absurd (s ((pause-is history (suc j) (omega (arith, lt, last))).1 e))
      by false e = refl

  hides : (j : ℕ) → j < z → IsInPause history (suc j) → shown history j ≡ false
  hides j lt p = ap not ((pause-is history (suc j) (omega (arith, lt, last))).0 p)

  is_hidden : (j : ℕ) → j < z → shown history j ≡ false → IsInPause history (suc j)
  is_hidden j lt e =
      (pause-is history (suc j) (omega (arith, lt, last))).1
      (by (is_paused (past_at history (suc j))) e)
    where
      by : (b : Bool) → not b ≡ false → b ≡ true
      by true e = refl
      by false e = differ e

  to_stretch : Later (shown history) a z x y → IsStretch history a z x y
  to_stretch l = let r = l.run in let s = r.some in let t = r.to in record {
    from = l.from;
    some = r.some;
    to = r.to;
    shown = λ j m o. is_shown j (omega (arith, o, t)) (r.all j m o);
    hidden_before =
        λ m. before x (λ j k. is_hidden j (omega (arith, k, s, t))
        (l.prior j k (omega (arith, m, k)))) (omega (arith, m));
    hidden_after = λ m. is_hidden y m (r.next m);
  }
    where
      before : (x : ℕ) → ((j : ℕ) → suc j ≡ x → IsInPause history (suc j)) → 0 < x
          → IsInPause history x
      before zero f m = absurd (omega (arith, m))
      before (suc j) f m = f j refl

  from_stretch : IsStretch history a z x y → Later (shown history) a z x y
  from_stretch s = let u = s.some in let t = s.to in record {
    from = s.from;
    prior = λ j k m. hides j (omega (arith, k, u, t))
        (subst (IsInPause history) (sym k) (s.hidden_before (omega (arith, k, m))));
    run = record {
      some = s.some;
      to = s.to;
      all =
          λ j m o. shows j (omega (arith, o, t)) (s.shown j m o);
      next =
          λ m. hides y m (s.hidden_after m);
    };
  }

pub slices_are : (history : List TraceInput) (a z x y : ℕ) → a ≤ z → z ≤ length history
    → Has (slices history a z) (x, y) ↔ IsStretch history a z x y
slices_are history a z x y le last =
    let f = found (shown history) x y None a (z - a) z (omega (arith, le)) in (
      (λ has. to_stretch history a z last x y (f.0 has)),
      (λ s. f.1 (from_stretch history a z last x y s)),
    )
