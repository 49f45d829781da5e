-- Runs of gaps that are alike, and how slices are cut of them.
use Rattle.std.proofs.Common.{◌≡◌, ◌≤◌, ◌<◌, inl, inr, ℕ, zero, suc, ◌+◌, ◌-◌, Bool, true, false}
use Rattle.std.proofs.Common.{List, [], ◌∷◌, ◌++◌, length, get_or, slice_get, Some}
use Rattle.std.proofs.Common.{None, refl, ap, sym, ◌∙◌, subst, arith}
use Rattle.std.proofs.Common.{if◌then◌else◌, max}
use Rattle.std.proofs.lemmas.List.{length-append}
use Rattle.std.proofs.lemmas.Option.{slice_get-get_or}
use Rattle.rec_spans.proofs.PlacesOfHistory.{below_suc}
use Rattle.rec_spans.specs.declared.settings.ChromeTraceGroupBy.TheVariants.{Slot}
use Rattle.rec_spans.specs.declared.settings.ChromeTraceGroupBy.{ChromeTraceGroupBy}
use Rattle.rec_spans.specs.Kinds.{history, history_after, trace_input}
use Rattle.rec_spans.specs.Past.{TraceInput, binaries}
use Rattle.rec_spans.specs.Plain.{PlainEvent}
use Rattle.rec_view.proofs.GapsShown.{Kept, gap_is, passed, some_same}
use Rattle.rec_view.proofs.Open.{get_before, get_last}
use Rattle.rec_view.specs.declared.shown_gaps.Cutter.{Cutter}
use Rattle.rec_view.specs.declared.shown_gaps.ShownGaps.{ShownGaps}
use Rattle.rec_view.specs.ShownGaps.{Adds, AreEnds, AreEndsOf, AreGaps, AreShown, Becomes}
use Rattle.rec_view.specs.ShownGaps.{IsRunEnd, Passes, is_wanted, pairs, passes_for}
use Rattle.rec_view.specs.Slices.{close, shown, stretches}

-- ---- where runs end

pub next_run : (gaps : List Bool) (i at end e : ℕ) → i < length gaps
    → at ≡ (length gaps - 1) - i → (0 < i → IsRunEnd gaps (length gaps - i) end)
    → ((suc at < length gaps → IsRunEnd gaps (suc at) end) → IsRunEnd gaps at e)
    → IsRunEnd gaps at e
next_run gaps i at end e lt is before step =
    step (λ more. subst (λ k. IsRunEnd gaps k end) (omega (arith, is, lt, more))
    (before (omega (arith, is, lt, more))))

pub ends_more : (gaps : List Bool) (i at e : ℕ) (ends : List ℕ) → i < length gaps
    → at ≡ (length gaps - 1) - i → AreEndsOf gaps i ends → IsRunEnd gaps at e
    → AreEndsOf gaps (suc i) (ends ++ e ∷ [])
ends_more gaps i at e ends lt is are run = record { many = longer; each = each }
  where
    longer : length (ends ++ e ∷ []) ≡ suc i
    longer = let a = length-append ends (e ∷ []) in let b = are.many in omega (arith, a, b)

    each : (m : ℕ) → m < suc i
        → (end : ℕ) × (slice_get (ends ++ e ∷ []) m ≡ Some end)
        × IsRunEnd gaps ((length gaps - 1) - m) end
    each m h = elim (below_suc m i h) [
      | inl same ↦ (
        e,
        ap (slice_get (ends ++ e ∷ [])) (same ∙ sym are.many) ∙ get_last ends e,
        subst (λ k. IsRunEnd gaps k e) (omega (arith, is, same)) run,
      )
      | inr less ↦
          let old = are.each m less in (
            old.0,
            get_before ends e m (let many = are.many in omega (arith, less, many)) ∙ old.1,
            old.2,
          )
    ]

pub run_of : (gaps : List Bool) (ends : List ℕ) (at index x : ℕ) → AreEnds gaps ends
    → at < length gaps → index ≡ (length gaps - 1) - at
    → x ≡ max (get_or ends index at) (at + 1) → IsRunEnd gaps at x
run_of gaps ends at index x are lt is e =
    let within : index < length gaps = omega (arith, is, lt) in
    let one = are.each index within in
    let many = are.many in
    let got : get_or ends index at ≡ one.0 =
    some_same (get_or ends index at) one.0
    (sym (slice_get-get_or ends index at (omega (arith, within, many))) ∙ one.1) in
    let there : (length gaps - 1) - index ≡ at = omega (arith, is, lt) in
    let run : IsRunEnd gaps at one.0 = subst (λ k. IsRunEnd gaps k one.0) there one.2 in
    let later = run.later in
    let same : one.0 ≡ x = omega (arith, e, got, later) in
    subst (IsRunEnd gaps at) same run

-- ---- what is cut of a run

module _ (passes : ℕ → Bool) where
  stays_some : (x k e m n d : ℕ) → e ≡ k + d → m ≡ d + n
      → ((j : ℕ) → k ≤ j → j < e → passes j ≡ true)
      → stretches passes (Some x) k m ≡ stretches passes (Some x) e n
  stays_some x k e m n zero a b h =
      let p : k ≡ e = omega (arith, a) in let q : m ≡ n = omega (arith, b) in
      λ i. stretches passes (Some x) (p i) (q i)
  stays_some x k e m n (suc d) a b h =
      ap (stretches passes (Some x) k) (let q : m ≡ suc (d + n) = omega (arith, b) in q)
      ∙ ap (λ c. if c then stretches passes (Some x) (suc k) (d + n)
      else close (Some x) k ++ stretches passes None (suc k) (d + n))
      (h k (omega arith) (omega (arith, a)))
      ∙ stays_some x (suc k) e (d + n) n d (omega (arith, a)) refl
      (λ j l u. h j (omega (arith, l)) u)

  stays_none : (k e m n d : ℕ) → e ≡ k + d → m ≡ d + n
      → ((j : ℕ) → k ≤ j → j < e → passes j ≡ false)
      → stretches passes None k m ≡ stretches passes None e n
  stays_none k e m n zero a b h =
      let p : k ≡ e = omega (arith, a) in let q : m ≡ n = omega (arith, b) in
      λ i. stretches passes None (p i) (q i)
  stays_none k e m n (suc d) a b h =
      ap (stretches passes None k) (let q : m ≡ suc (d + n) = omega (arith, b) in q)
      ∙ ap (λ c. if c then stretches passes (Some k) (suc k) (d + n)
      else close None k ++ stretches passes None (suc k) (d + n))
      (h k (omega arith) (omega (arith, a)))
      ∙ stays_none (suc k) e (d + n) n d (omega (arith, a)) refl
      (λ j l u. h j (omega (arith, l)) u)

  -- a run of gaps is gone through
  pub run_passed : (old new : Cutter) (at e to : ℕ) (all : List (ℕ × ℕ)) (b : Bool) → at < e
      → e ≤ to → ((j : ℕ) → at ≤ j → j < e → passes j ≡ b) → Passes b at old new
      → Becomes passes old at (to - at) all → Becomes passes new e (to - e) all
  run_passed old new at e to all b lt le h p has =
      by b h p (passed passes old new at (to - suc at) all b (h at (omega arith) lt) p
      (subst (λ n. Becomes passes old at n all) rest has))
    where
      rest : to - at ≡ suc (to - suc at)
      rest = omega (arith, lt, le)

      by : (b : Bool) → ((j : ℕ) → at ≤ j → j < e → passes j ≡ b) → Passes b at old new
          → Becomes passes new (suc at) (to - suc at) all → Becomes passes new e (to - e) all
      by true h p one =
          subst (λ o. pairs new.slices.items ++ stretches passes o e (to - e) ≡ all) (sym p.1)
          (ap (λ xs. pairs new.slices.items ++ xs)
          (sym (stays_some _ (suc at) e (to - suc at) (to - e) (e - suc at)
          (omega (arith, lt)) (omega (arith, lt, le)) (λ j l u. h j (omega (arith, l)) u)))
          ∙ ap (λ o. pairs new.slices.items ++ stretches passes o (suc at) (to - suc at)) (sym p.1)
          ∙ one)
      by false h p one =
          subst (λ o. pairs new.slices.items ++ stretches passes o e (to - e) ≡ all) (sym p.none)
          (ap (λ xs. pairs new.slices.items ++ xs)
          (sym (stays_none (suc at) e (to - suc at) (to - e) (e - suc at)
          (omega (arith, lt)) (omega (arith, lt, le)) (λ j l u. h j (omega (arith, l)) u)))
          ∙ ap (λ o. pairs new.slices.items ++ stretches passes o (suc at) (to - suc at))
          (sym p.none) ∙ one)

-- ---- what is known of gaps

pub same_kind : (h : List TraceInput) (g : ShownGaps) (at e : ℕ) (wanted b : Bool)
    → AreGaps h g → IsRunEnd g.shown.items at e → b ≡ get_or g.shown.items at b → (j : ℕ)
    → at ≤ j → j < e → passes_for wanted h j ≡ is_wanted wanted b
same_kind h g at e wanted b are run is j l u =
    ap (is_wanted wanted) (some_same (shown h j) b
    (sym (are.shown.each j (omega (arith, u, w, many))) ∙ run.alike j l u
    ∙ are.shown.each at (omega (arith, l, u, w, many)) ∙ ap (λ c. Some c) here))
  where
    many : length g.shown.items ≡ length h
    many = are.shown.many

    w : e ≤ length g.shown.items
    w = run.within

    here : shown h at ≡ b
    here =
        gap_is h g.shown.items at b (subst (λ n. AreShown h n g.shown.items) (sym many) are.shown)
        (omega (arith, l, u, w)) is

pub history-many : (g : ChromeTraceGroupBy) (past : List TraceInput) (events : List PlainEvent)
    → length (history_after g past events) ≡ length events
history-many g past [] = refl
history-many g past (e ∷ events) =
    ap suc (history-many g (trace_input g (binaries past) e ∷ past) events)

pub gaps_kept : (events : List PlainEvent) (i : ℕ) (in_pause : Bool) (xs : List Bool)
    (g : ShownGaps) → i ≡ length events → Kept events i in_pause g.shown.items
    → xs ≡ g.shown.items → AreEnds xs g.ends.items → AreGaps (history Slot events) g
gaps_kept events i in_pause xs g end kept same ends = record {
  shown = subst (λ n. AreShown (history Slot events) n g.shown.items)
      (end ∙ sym (history-many Slot [] events)) kept.gaps_are;
  ends = subst (λ ys. AreEnds ys g.ends.items) same ends;
}

-- ---- all slices

pub pauses_cut : (passes : ℕ → Bool) (first last : Cutter) (n m : ℕ) → first.slices.items ≡ []
    → first.held ≡ None → n ≡ m → Becomes passes first 0 n (pairs last.slices.items)
    → pairs last.slices.items ≡ stretches passes None 0 m
pauses_cut passes first last n m empty held e cut =
    sym cut
    ∙ ap (λ xs. pairs xs ++ stretches passes first.held 0 n) empty
    ∙ ap (λ o. stretches passes o 0 n) held
    ∙ ap (stretches passes None 0) e

pub all_cut : (passes : ℕ → Bool) (first second third last : Cutter) (a n : ℕ)
    (start end : List (ℕ × ℕ)) → first.slices.items ≡ [] → first.held ≡ None
    → Adds start first second → Becomes passes second a n (pairs third.slices.items)
    → Adds end third last
    → pairs last.slices.items ≡ start ++ stretches passes None a n ++ end
all_cut passes first second third last a n start end empty held one cut two =
    two.built
    ∙ ap (λ xs. xs ++ end) (sym cut
    ∙ ap (λ xs. xs ++ stretches passes second.held a n) (one.built
    ∙ ap (λ xs. pairs xs ++ start) empty)
    ∙ ap (λ o. start ++ stretches passes o a n) (one.same ∙ held))
