-- The longest stretches of gaps that pass a test, each once, and what they add up to.
use Rattle.std.proofs.Common.{◌≡◌, ◌<◌, ◌≤◌, ◌+◌, ◌⊎◌, ◌↔◌, ℕ, zero, suc, Bool, true, false}
use Rattle.std.proofs.Common.{cond, if◌then◌else◌, List, [], ◌∷◌, map, Option, Some, None}
use Rattle.std.proofs.Common.{ℤ, pos, ◌+ℤ◌, ◌-ℤ◌, refl, sym, ◌∙◌, subst, arith, inl, inr}
use Rattle.std.proofs.lemmas.Bool.{false≢true}
use Rattle.std.proofs.lemmas.Int.{ints}
use Rattle.rec_spans.specs.Positions.{Has, IsOnce}
use Rattle.rec_spans.specs.Times.{Window, total}

abbrev pub window : ℕ → ℕ → Window
window x y = record { from = x; to = y }

-- q passes at a position where the gap before it passes
module _ (q : ℕ → Bool) where
  -- the windows of so many gaps from a position on, of which one may have begun before it
  abbrev pub windows_from : Option ℕ → ℕ → ℕ → List Window
  windows_from None i zero = []
  windows_from (Some x) i zero = window x i ∷ []
  windows_from None i (suc d) =
      if q (suc i) then windows_from (Some i) (suc i) d else windows_from None (suc i) d
  windows_from (Some x) i (suc d) =
      if q (suc i) then windows_from (Some x) (suc i) d
      else (window x i ∷ windows_from None (suc i) d)

  module _ (a z : ℕ) where
    -- all gaps of a window pass, and it is a longest such stretch from a to z
    pub record IsRun (w : Window) : Type 0 where
      pub after_start : a ≤ w.from
      pub some : w.from < w.to
      pub before_end : w.to ≤ z
      pub hidden : (k : ℕ) → w.from < k → k ≤ w.to → q k ≡ true
      pub shown_before : a < w.from → q w.from ≡ false
      pub shown_after : w.to < z → q (suc w.to) ≡ false

    -- what is known of the gaps before a position
    abbrev pub Begun : Option ℕ → ℕ → Type 0
    Begun None i = (a ≤ i) × (a < i → q i ≡ false)
    Begun (Some x) i =
        (a ≤ x) × (x < i) × ((k : ℕ) → x < k → k ≤ i → q k ≡ true) × (a < x → q x ≡ false)

    -- a window that has begun and ends here
    ended : (x i : ℕ) → Begun (Some x) i → i ≤ z → (i < z → q (suc i) ≡ false) → IsRun (window x i)
    ended x i begun within ends = record {
      after_start = begun.0;
      some = begun.1;
      before_end = within;
      hidden = begun.2;
      shown_before = begun.3;
      shown_after = ends;
    }

    -- no other window begins on the way
    same-from : (x i : ℕ) → Begun (Some x) i → (w : Window) → IsRun w → x ≤ w.from → w.from ≤ i
        → w.from ≡ x
    same-from x i begun w run from to =
        let two : (w.from ≡ x) ⊎ (x < w.from) = grind arith in
        elim two [
          | inl e ↦ e
          | inr lt ↦ absurd (false≢true
              (sym (run.shown_before (let le = begun.0 in omega arith)) ∙ begun.2 w.from lt to))
        ]

    -- a window that begins there ends here
    same-to : (x i : ℕ) → Begun (Some x) i → i ≤ z → (i < z → q (suc i) ≡ false) → (w : Window)
        → IsRun w → w.from ≡ x → w.to ≡ i
    same-to x i begun within ends w run from =
        let some = run.some in
        let to = run.before_end in
        let three : (w.to ≡ i) ⊎ ((w.to < i) ⊎ (i < w.to)) = grind arith in
        elim three [
          | inl e ↦ e
          | inr other ↦ elim other [
            | inl lt ↦ absurd (false≢true (sym (run.shown_after (omega arith))
                ∙ begun.2 (suc w.to) (omega arith) (omega arith)))
            | inr lt ↦ absurd (false≢true
                (sym (ends (omega arith)) ∙ run.hidden (suc i) (omega arith) (omega arith)))
          ]
        ]

    same-window : (x i : ℕ) → Begun (Some x) i → i ≤ z → (i < z → q (suc i) ≡ false) → (w : Window)
        → IsRun w → x ≤ w.from → w.from ≤ i → window x i ≡ w
    same-window x i begun within ends w run from to =
        let e = same-from x i begun w run from to in
        let f = same-to x i begun within ends w run e in
        sym (λ j. record { from = e j; to = f j })

    -- no window begins where the gap after it does not pass
    later-from : (i : ℕ) → q (suc i) ≡ false → (w : Window) → IsRun w → i ≤ w.from → suc i ≤ w.from
    later-from i e w run from =
        let some = run.some in
        let two : (w.from ≡ i) ⊎ (suc i ≤ w.from) = grind arith in
        elim two [
          | inl same ↦ absurd (false≢true (sym e ∙ run.hidden (suc i) (omega arith) (omega arith)))
          | inr later ↦ later
        ]

    -- the first position at which one of these windows may begin
    abbrev pub first_at : Option ℕ → ℕ → ℕ
    first_at None i = i
    first_at (Some x) i = x

    -- the gap after a position passes
    begun-here : (i : ℕ) → Begun None i → q (suc i) ≡ true → Begun (Some i) (suc i)
    begun-here i begun e = (
      begun.0,
      omega arith,
      (λ k lt le. let same : suc i ≡ k = omega arith in subst (λ v. q v ≡ true) same e),
      begun.1,
    )

    begun-on : (x i : ℕ) → Begun (Some x) i → q (suc i) ≡ true → Begun (Some x) (suc i)
    begun-on x i begun e = (
      begun.0,
      (let lt = begun.1 in omega arith),
      (λ k lt le. let two : (suc i ≡ k) ⊎ (k ≤ i) = grind arith in
          elim two [ inl same ↦ subst (λ v. q v ≡ true) same e | inr w ↦ begun.2 k lt w ]),
      begun.3,
    )

    begun-none : (i : ℕ) → a ≤ i → q (suc i) ≡ false → Begun None (suc i)
    begun-none i le e = (omega arith, (λ lt. e))

    abbrev IsEach : Option ℕ → ℕ → List Window → Type 0
    IsEach o i ws = (w : Window) → Has ws w ↔ (IsRun w × (first_at o i ≤ w.from))

    -- these windows are all that there are from the position on
    pub windows-each : (o : Option ℕ) (i d : ℕ) → i + d ≡ z → Begun o i
        → IsEach o i (windows_from o i d)
    windows-each None i zero count begun w = (
      (λ h. absurd h),
      (λ p. absurd (let lt = p.0.some in let le = p.0.before_end in let from = p.1 in omega arith)),
    )
    windows-each (Some x) i zero count begun w = (
      (λ h. elim h [
        | inl e ↦ subst (λ v. IsRun v × (x ≤ v.from)) e
            (ended x i begun (omega arith) (λ lt. absurd (omega arith)), omega arith)
        | inr n ↦ absurd n
      ]),
      (λ p. inl (same-window x i begun (omega arith) (λ lt. absurd (omega arith)) w p.0 p.1
          (let lt = p.0.some in let le = p.0.before_end in omega arith))),
    )
    windows-each None i (suc d) count begun w =
        go (q (suc i)) refl (windows-each (Some i) (suc i) d (omega arith))
        (windows-each None (suc i) d (omega arith)) w
      where
        go : (b : Bool) → q (suc i) ≡ b
            → (Begun (Some i) (suc i) → IsEach (Some i) (suc i) (windows_from (Some i) (suc i) d))
            → (Begun None (suc i) → IsEach None (suc i) (windows_from None (suc i) d)) →
            IsEach None i (cond b (windows_from (Some i) (suc i) d) (windows_from None (suc i) d))
        go true e hidden shown w = hidden (begun-here i begun e) w
        go false e hidden shown w =
            let ih = shown (begun-none i begun.0 e) w in (
              (λ h. ((ih.0 h).0, (let le = (ih.0 h).1 in omega arith))),
              (λ p. ih.1 (p.0, later-from i e w p.0 p.1)),
            )
    windows-each (Some x) i (suc d) count begun w =
        go (q (suc i)) refl (windows-each (Some x) (suc i) d (omega arith))
        (windows-each None (suc i) d (omega arith)) w
      where
        go : (b : Bool) → q (suc i) ≡ b
            → (Begun (Some x) (suc i) → IsEach (Some x) (suc i) (windows_from (Some x) (suc i) d))
            → (Begun None (suc i) → IsEach None (suc i) (windows_from None (suc i) d)) →
            IsEach (Some x) i
            (cond b (windows_from (Some x) (suc i) d) (window x i ∷ windows_from None (suc i) d))
        go true e hidden shown w = hidden (begun-on x i begun e) w
        go false e hidden shown w =
            let at = begun.0 in
            let before = begun.1 in
            let ih = shown (begun-none i (omega arith) e) w in (
              (λ h. elim h [
                | inl same ↦ subst (λ v. IsRun v × (x ≤ v.from)) same
                    (ended x i begun (omega arith) (λ lt. e), omega arith)
                | inr later ↦ ((ih.0 later).0, (let le = (ih.0 later).1 in omega arith))
              ]),
              (λ p.
                  let two : (w.from ≤ i) ⊎ (suc i ≤ w.from) = grind arith in
                  elim two [
                    | inl here ↦ inl (same-window x i begun (omega arith) (λ lt. e) w p.0 p.1 here)
                    | inr later ↦ inr (ih.1 (p.0, later))
                  ]),
            )

    -- none stands twice
    pub windows-once : (o : Option ℕ) (i d : ℕ) → i + d ≡ z → Begun o i
        → IsOnce (windows_from o i d)
    windows-once None i zero count begun = tt
    windows-once (Some x) i zero count begun = ((λ h. h), tt)
    windows-once None i (suc d) count begun =
        go (q (suc i)) refl (windows-once (Some i) (suc i) d (omega arith))
        (windows-once None (suc i) d (omega arith))
      where
        go : (b : Bool) → q (suc i) ≡ b
            → (Begun (Some i) (suc i) → IsOnce (windows_from (Some i) (suc i) d))
            → (Begun None (suc i) → IsOnce (windows_from None (suc i) d)) →
            IsOnce (cond b (windows_from (Some i) (suc i) d) (windows_from None (suc i) d))
        go true e hidden shown = hidden (begun-here i begun e)
        go false e hidden shown = shown (begun-none i begun.0 e)
    windows-once (Some x) i (suc d) count begun =
        go (q (suc i)) refl (windows-once (Some x) (suc i) d (omega arith))
        (windows-once None (suc i) d (omega arith))
      where
        go : (b : Bool) → q (suc i) ≡ b
            → (Begun (Some x) (suc i) → IsOnce (windows_from (Some x) (suc i) d))
            → (Begun None (suc i) → IsOnce (windows_from None (suc i) d)) →
            IsOnce
            (cond b (windows_from (Some x) (suc i) d) (window x i ∷ windows_from None (suc i) d))
        go true e hidden shown = hidden (begun-on x i begun e)
        go false e hidden shown =
            let at = begun.0 in
            let before = begun.1 in
            let none = begun-none i (omega arith) e in (
              (λ h. let le =
                  ((windows-each None (suc i) d (omega arith) none (window x i)).0 h).1 in
                  absurd (omega arith)),
              shown none,
            )

  -- ---- times

  module _ (at : ℕ → ℤ) where
    -- the time of so many gaps from a position on, in those that pass
    abbrev pub gaps_time : ℕ → ℕ → ℤ
    gaps_time i zero = pos 0
    gaps_time i (suc d) = (if q (suc i) then at (suc i) -ℤ at i else pos 0) +ℤ gaps_time (suc i) d

    -- the time so far of a window that may have begun
    abbrev pub so_far : Option ℕ → ℕ → ℤ
    so_far None i = pos 0
    so_far (Some x) i = at i -ℤ at x

    abbrev pub times_of : List Window → ℤ
    times_of ws = total (map (λ w. at w.to -ℤ at w.from) ws)

    -- the windows add up to the time of all gaps that pass
    pub windows-total : (o : Option ℕ) (i d : ℕ)
        → times_of (windows_from o i d) ≡ so_far o i +ℤ gaps_time i d
    windows-total None i zero = omega (arith, ints)
    windows-total (Some x) i zero = omega (arith, ints)
    windows-total None i (suc d) =
        go (q (suc i)) (windows-total (Some i) (suc i) d) (windows-total None (suc i) d)
      where
        go : (b : Bool)
            → times_of (windows_from (Some i) (suc i) d)
            ≡ (at (suc i) -ℤ at i) +ℤ gaps_time (suc i) d
            → times_of (windows_from None (suc i) d) ≡ pos 0 +ℤ gaps_time (suc i) d →
            times_of (cond b (windows_from (Some i) (suc i) d) (windows_from None (suc i) d))
            ≡ pos 0 +ℤ (cond b (at (suc i) -ℤ at i) (pos 0) +ℤ gaps_time (suc i) d)
        go true h k = omega (arith, ints)
        go false h k = omega (arith, ints)
    windows-total (Some x) i (suc d) =
        go (q (suc i)) (windows-total (Some x) (suc i) d) (windows-total None (suc i) d)
      where
        go : (b : Bool)
            → times_of (windows_from (Some x) (suc i) d)
            ≡ (at (suc i) -ℤ at x) +ℤ gaps_time (suc i) d
            → times_of (windows_from None (suc i) d) ≡ pos 0 +ℤ gaps_time (suc i) d →
            times_of
            (cond b (windows_from (Some x) (suc i) d) (window x i ∷ windows_from None (suc i) d))
            ≡ (at i -ℤ at x) +ℤ (cond b (at (suc i) -ℤ at i) (pos 0) +ℤ gaps_time (suc i) d)
        go true h k = omega (arith, ints)
        go false h k = omega (arith, ints)
