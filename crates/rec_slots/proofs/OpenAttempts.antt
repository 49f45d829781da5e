-- The attempts that aren't known to be inside the run, after one event more.
use Rattle.std.proofs.Common.{◌≡◌, ◌≢◌, ◌⊎◌, ◌↔◌, ◌<◌, ◌≤◌, inl, inr, ℕ, suc, Bool, true, false}
use Rattle.std.proofs.Common.{cond, ◌==◌, List, [], ◌∷◌, ◌++◌, length, Option, Some, None}
use Rattle.std.proofs.Common.{option_map, slice_get, take, drop, refl, sym, ◌∙◌, ap, subst, arith}
use Rattle.std.proofs.lemmas.Bool.{false≢true}
use Rattle.std.proofs.lemmas.List.Concat.{flat_map-append}
use Rattle.std.proofs.lemmas.List.{take-append-drop, take-take}
use Rattle.std.proofs.lemmas.Option.{slice_get-map}
use Rattle.std.specs.BTreeMap.{BTreeMap, get, is_at}
use Rattle.std.specs.BTreeSet.{BTreeSet, contains}
use Rattle.std.specs.List.{flat_map}
use Rattle.std.specs.Option.{option_map_or}
use Rattle.std.specs.Ordering.{nat_cmp}
use Rattle.rec_events.specs.declared.instances.OwnedTestInstanceId.{OwnedTestInstanceId}
use Rattle.rec_spans.proofs.Fits.{StartFits, history-fits}
use Rattle.rec_spans.proofs.Keys.{is_eq-nat_cmp}
use Rattle.rec_spans.proofs.PlacesOfHistory.{change_at-is, event_at, open-is}
use Rattle.rec_spans.specs.Acts.{act_of}
use Rattle.rec_spans.specs.declared.settings.ChromeTraceGroupBy.TheVariants.{Slot}
use Rattle.rec_spans.specs.declared.spans.Place.TheVariants as places
use Rattle.rec_spans.specs.declared.spans.Span.{Span}
use Rattle.rec_spans.specs.declared.spans.SpanKey.TheVariants as keys
use Rattle.rec_spans.specs.Kinds.{history}
use Rattle.rec_spans.specs.Past.Change.{Start, Stop}
use Rattle.rec_spans.specs.Past.{TraceInput, binaries}
use Rattle.rec_spans.specs.Plain.{PlainEvent}
use Rattle.rec_spans.specs.Positions.{Has, change_at, past_at}
use Rattle.rec_slots.proofs.EventsSeen.{Acts, acts-so}
use Rattle.rec_slots.proofs.HeldSlots.{held-has, test-on}
use Rattle.rec_slots.proofs.Histories.{act-at, input, input-at, starts_fit-at}
use Rattle.rec_slots.specs.Acts.Act.{RunStarts, RunEnds, Starts, Ends, Silent}
use Rattle.rec_slots.specs.Acts.{Act, acts, slot_act}
use Rattle.rec_slots.specs.Beats.{EndsOn, IsNoAttempt, marks_before, spans_before}
use Rattle.rec_slots.specs.Runs.RunMark.{Begin, End}
use Rattle.rec_slots.specs.Runs.{IsInside, RunMark, StartsAttempt, is_begun}
use Rattle.rec_slots.specs.Runs.{is_running, is_start, run_mark, run_marks}
use Rattle.rec_slots.specs.Usage.{is_held}
use Rattle.rec_slots.specs.Walked.{IsInsideBefore, IsOpenOn, IsOutsideBefore}

-- ---- numbers

below-suc : (k n : ℕ) → k < suc n → (k ≡ n) ⊎ (k < n)
below-suc k n lt = grind arith

-- what a test for a number decides
at-number : (m k : ℕ)
    → ((is_at (nat_cmp m) k ≡ true) × (m ≡ k)) ⊎ ((is_at (nat_cmp m) k ≡ false) × (m ≢ k))
at-number m k = by (m == k) refl
  where
    by : (b : Bool) → (m == k) ≡ b
        → ((is_at (nat_cmp m) k ≡ true) × (m ≡ k)) ⊎ ((is_at (nat_cmp m) k ≡ false) × (m ≢ k))
    by true e = inl (is_eq-nat_cmp m k ∙ e, grind (arith, e))
    by false e = inr (is_eq-nat_cmp m k ∙ e, (λ same. grind (arith, e, same)))

-- ---- starts and ends of runs

pub begun-is : (ms : List RunMark) → is_begun ms ≡ true → ms ≡ Begin ∷ []
begun-is [] e = cc
begun-is (Begin ∷ []) e = refl
begun-is (Begin ∷ m ∷ ms) e = cc
begun-is (End ∷ ms) e = cc

-- a run goes on after an event exactly where it did before, or starts there
pub on-before : (ms more : List RunMark) → ms ++ more ≡ Begin ∷ []
    → ((ms ≡ Begin ∷ []) × (more ≡ [])) ⊎ ((ms ≡ []) × (more ≡ Begin ∷ []))
on-before [] more e = inr (refl, e)
on-before (m ∷ []) [] e = inl (e, refl)
on-before (m ∷ []) (x ∷ more) e = cc
on-before (m ∷ n ∷ ms) more e = cc

-- a list that is empty has an empty prefix
pub no-prefix : {A : Type 0} → (xs ys : List A) → xs ++ ys ≡ [] → xs ≡ []
no-prefix [] ys e = refl
no-prefix (x ∷ xs) ys e = cc

-- where there was nothing of a run, there was nothing before
none-before : (events : List PlainEvent) (a n : ℕ) → a ≤ n → marks_before events n ≡ []
    → marks_before events a ≡ []
none-before events a n le none =
    no-prefix (marks_before events a) (flat_map run_mark (drop a (take n (acts events))))
    (ap (λ l. run_marks l ++ flat_map run_mark (drop a (take n (acts events))))
    (sym (take-take a n (acts events) le))
    ∙ sym (flat_map-append run_mark (take a (take n (acts events))) (drop a (take n (acts events))))
    ∙ ap run_marks (take-append-drop a (take n (acts events))) ∙ none)

-- ---- attempts

module _ (events : List PlainEvent) where
  abbrev h : List TraceInput
  h = history Slot events

  -- what starts at a place is of a test, if an attempt starts there
  test-of : (i : ℕ) (s : Span) → StartsAttempt events i → change_at h i ≡ Some (Start s)
      → (test : OwnedTestInstanceId) × (s.key ≡ keys.Test test)
  test-of i s attempt starts = by (slice_get events i) refl
    where
      kind : (e : PlainEvent) (is : slice_get events i ≡ Some e) (a : Act)
          → slot_act (act_of e.kind) ≡ a → is_start a ≡ true
          → Acts (act_of e.kind) a (input events i e is).change
          → (test : OwnedTestInstanceId) × (s.key ≡ keys.Test test)
      kind e is (Starts slot) same yes_start (x, change, at, test) =
          let one : x ≡ s =
          (let c = change_at-is h i (input events i e is) (input-at events i e is) in cc) in
          subst (λ (v : Span). (test : OwnedTestInstanceId) × (v.key ≡ keys.Test test)) one test
      kind e is RunStarts same yes_start c = absurd (false≢true yes_start)
      kind e is RunEnds same yes_start c = absurd (false≢true yes_start)
      kind e is (Ends test) same yes_start c = absurd (false≢true yes_start)
      kind e is Silent same yes_start c = absurd (false≢true yes_start)

      by : (o : Option PlainEvent) → slice_get events i ≡ o
          → (test : OwnedTestInstanceId) × (s.key ≡ keys.Test test)
      by None is =
          absurd (none (slice_get-map (λ (x : PlainEvent). slot_act (act_of x.kind)) events i
          ∙ ap (option_map (λ (x : PlainEvent). slot_act (act_of x.kind))) is))
        where
          none : slice_get (acts events) i ≡ None → ⊥
          none e = false≢true (sym (ap (λ o. option_map_or is_start o false) e) ∙ attempt)
      by (Some e) is =
          kind e is (slot_act (act_of e.kind)) refl
          (sym (ap (λ o. option_map_or is_start o false) (act-at events i e is)) ∙ attempt)
          (acts-so (binaries (past_at h i)) (act_of e.kind))

  -- a span that is open on a slot is of a test
  on-slot : (n slot e : ℕ) (o : IsOpenOn events n slot e) → n ≤ length h
      → (test : OwnedTestInstanceId) × (o.span.key ≡ keys.Test test)
  on-slot n slot e o le =
      let lt = o.before in
      let (i, at) = event_at h o.start (omega arith) in
      let same : i.change ≡ Start o.span =
      (let c = change_at-is h o.start i at in let s = o.starts in cc) in
      test-on slot o.span.key o.span
      (subst StartFits same (starts_fit-at h o.start i (history-fits Slot events) at)) o.place

  -- it is among the open spans
  is-there : (n slot e : ℕ) (o : IsOpenOn events n slot e) → n ≤ length h
      → Has (spans_before events n) o.span
  is-there n slot e o le = (open-is h n o.span le).0 (o.start, o.before, o.starts, o.lasts)

  -- what lasts to an event, from a start while the run goes on, is open on its slot
  lasting : (n i : ℕ) (w : IsInside events i) (slot : ℕ) → w.end ≡ n
      → w.span.place ≡ places.Slot slot → IsOpenOn events n slot (suc i)
  lasting n i w slot to at = record {
    start = i;
    numbered = refl;
    before = (let lt = w.lasts.later in omega arith);
    running = w.running;
    span = w.span;
    starts = w.lasts.starts;
    place = at;
    lasts = λ k from before. w.lasts.first k from (omega arith);
  }

  -- one event on
  outside-more : (n i : ℕ) → IsOutsideBefore events n i → ((w : IsInside events i) → w.end ≢ n)
      → IsOutsideBefore events (suc n) i
  outside-more n i o goes_on = record {
    before = (let lt = o.before in omega arith);
    starts = o.starts;
    outside = λ (w, lt). elim (below-suc w.end n lt) [
      | inl same ↦ goes_on w same
      | inr before ↦ o.outside (w, before)
    ];
  }

  outside-less : (n i : ℕ) → i < n → IsOutsideBefore events (suc n) i → IsOutsideBefore events n i
  outside-less n i before o =
      record { before = before; starts = o.starts; outside = λ (w, lt). o.outside (w, omega arith) }

  -- the event starts no attempt, so what has started did before
  started-before : (n i : ℕ) → ¬ StartsAttempt events n → IsOutsideBefore events (suc n) i → i < n
  started-before n i none o = elim (below-suc i n o.before) [
    | inl same ↦ absurd (none (subst (StartsAttempt events) same o.starts))
    | inr lt ↦ lt
  ]

  -- what ends at an event
  ends-at : (n i : ℕ) (w : IsInside events i) → w.end ≡ n → change_at h n ≡ Some (Stop w.span.key)
  ends-at n i w to = subst (λ k. change_at h k ≡ Some (Stop w.span.key)) to (w.lasts.stops w.ends)

  open-more : (n slot e : ℕ) (o : IsOpenOn events n slot e) → change_at h n ≢ Some (Stop o.span.key)
      → IsOpenOn events (suc n) slot e
  open-more n slot e o goes_on = record {
    start = o.start;
    numbered = o.numbered;
    before = (let lt = o.before in omega arith);
    running = o.running;
    span = o.span;
    starts = o.starts;
    place = o.place;
    lasts = λ k from to. elim (below-suc k n to) [
      | inl same ↦ subst (λ v. change_at h v ≢ Some (Stop o.span.key)) (sym same) goes_on
      | inr lt ↦ o.lasts k from lt
    ];
  }

  abbrev open-less : (n slot e : ℕ) (o : IsOpenOn events (suc n) slot e) → o.start < n
      → IsOpenOn events n slot e
  open-less n slot e o lt = record {
    start = o.start;
    numbered = o.numbered;
    before = lt;
    running = o.running;
    span = o.span;
    starts = o.starts;
    place = o.place;
    lasts = λ k from to. o.lasts k from (omega arith);
  }

  -- ---- what is noted

  -- the starts that are noted, and the open attempts
  abbrev pub AreStarts : ℕ → BTreeSet ℕ → Type 0
  AreStarts n starts =
      (contains nat_cmp starts 0 ≡ false)
      × ((i : ℕ) → (contains nat_cmp starts (suc i) ≡ true) ↔ IsOutsideBefore events n i)

  abbrev pub AreOpen : ℕ → BTreeMap ℕ ℕ → Type 0
  AreOpen n running = (slot e : ℕ) → (get nat_cmp running slot ≡ Some e) ↔ IsOpenOn events n slot e

  -- a set with one number put in, or taken out
  abbrev pub Changes : BTreeSet ℕ → ℕ → Bool → BTreeSet ℕ → Type 0
  Changes old k there new =
      (i : ℕ) → contains nat_cmp new i ≡ cond (is_at (nat_cmp k) i) there (contains nat_cmp old i)

  abbrev pub Sets : BTreeMap ℕ ℕ → ℕ → Option ℕ → BTreeMap ℕ ℕ → Type 0
  Sets old slot e new =
      (p : ℕ) → get nat_cmp new p ≡ cond (is_at (nat_cmp slot) p) e (get nat_cmp old p)

  module _ (n : ℕ) (le : n < length h) where
    -- ---- an attempt starts

    module _ (slot : ℕ) (attempt : StartsAttempt events n) (s : Span)
        (starts : change_at h n ≡ Some (Start s)) (at : s.place ≡ places.Slot slot)
        (free : is_held slot (spans_before events n) ≡ false) where
      pub starts-put : (old new : BTreeSet ℕ) → Changes old (suc n) true new → AreStarts n old
          → AreStarts (suc n) new
      starts-put old new put are = (zero_out, each)
        where
          zero_out : contains nat_cmp new 0 ≡ false
          zero_out = elim (at-number (suc n) 0) [
            | inl p ↦ absurd (omega (arith, p.1))
            | inr p ↦ put 0 ∙ ap (λ b. cond b true (contains nat_cmp old 0)) p.0 ∙ are.0
          ]

          here : IsOutsideBefore events (suc n) n
          here = record {
            before = omega arith;
            starts = attempt;
            outside = λ (w, lt). let later = w.lasts.later in absurd (omega arith);
          }

          each : (i : ℕ) → (contains nat_cmp new (suc i) ≡ true) ↔ IsOutsideBefore events (suc n) i
          each i = elim (at-number (suc n) (suc i)) [
            | inl p ↦ (
              (λ in_set. let same : n ≡ i = omega (arith, p.1) in
                  subst (IsOutsideBefore events (suc n)) same here),
              (λ o. put (suc i) ∙ ap (λ b. cond b true (contains nat_cmp old (suc i))) p.0),
            )
            | inr p ↦
                let same =
                put (suc i) ∙ ap (λ b. cond b true (contains nat_cmp old (suc i))) p.0 in (
                  (λ in_set. outside-more n i ((are.1 i).0 (sym same ∙ in_set))
                      (λ w to. let stops = ends-at n i w to in let began = starts in cc)),
                  (λ o. same ∙ (are.1 i).1 (outside-less n i (before i p.1 o.before) o)),
                )
          ]
            where
              before : (i : ℕ) → suc n ≢ suc i → i < suc n → i < n
              before i other lt = elim (below-suc i n lt) [
                | inl e ↦ absurd (other (ap suc (sym e)))
                | inr below ↦ below
              ]

      pub open-put : (old new : BTreeMap ℕ ℕ) → is_running events n ≡ true
          → Sets old slot (Some (suc n)) new → AreOpen n old → AreOpen (suc n) new
      open-put old new running put are p e = elim (at-number slot p) [
        | inl here ↦
            let value : get nat_cmp new p ≡ Some (suc n) =
            put p ∙ ap (λ b. cond b (Some (suc n)) (get nat_cmp old p)) here.0 in (
              (λ is. subst (λ q. IsOpenOn events (suc n) q e) here.1 (began e (sym is ∙ value))),
              (λ o. value
                  ∙ ap Some (only e (subst (λ q. IsOpenOn events (suc n) q e) (sym here.1) o))),
            )
        | inr there ↦
            let same : get nat_cmp new p ≡ get nat_cmp old p =
            put p ∙ ap (λ b. cond b (Some (suc n)) (get nat_cmp old p)) there.0 in (
              (λ is. open-more n p e ((are p e).0 (sym same ∙ is)) (λ stops. let b = starts in cc)),
              (λ o. same ∙ (are p e).1 (open-less n p e o (earlier p e there.1 o))),
            )
      ]
        where
          began : (e : ℕ) → Some e ≡ Some (suc n) → IsOpenOn events (suc n) slot e
          began e is = record {
            start = n;
            numbered = (let same : e ≡ suc n = cc in same);
            before = omega arith;
            running = running;
            span = s;
            starts = starts;
            place = at;
            lasts = λ k from to. absurd (omega arith);
          }

          only : (e : ℕ) → IsOpenOn events (suc n) slot e → suc n ≡ e
          only e o = elim (below-suc o.start n o.before) [
            | inl same ↦ sym (o.numbered ∙ ap suc same)
            | inr lt ↦
                let before = open-less n slot e o lt in
                absurd (false≢true (sym free ∙ held-has slot o.span (spans_before events n)
                (is-there n slot e before (omega arith)) o.place))
          ]

          earlier : (p e : ℕ) → slot ≢ p → (o : IsOpenOn events (suc n) p e) → o.start < n
          earlier p e other o = elim (below-suc o.start n o.before) [
            | inl same ↦
                let one : s ≡ o.span =
                (let a = subst (λ k. change_at h k ≡ Some (Start o.span)) same o.starts in
                let b = starts in cc) in
                let both : places.Slot slot ≡ places.Slot p =
                sym at ∙ ap (λ (v : Span). v.place) one ∙ o.place in
                absurd (other cc)
            | inr lt ↦ lt
          ]

    -- ---- an attempt ends

    module _ (slot : ℕ) (ends : EndsOn events n slot) (attempt : ¬ StartsAttempt events n) where
      -- the span on the slot is the one that ends
      on-it : (e : ℕ) (o : IsOpenOn events n slot e) → o.span ≡ ends.span
      on-it e o = ends.one o.span (is-there n slot e o (omega arith)) (inr o.place)

      -- what started at an open start on the slot is inside
      abbrev inside : (e : ℕ) (o : IsOpenOn events n slot e) → is_running events n ≡ true
          → IsInside events o.start
      inside e o running =
          let stops : change_at h n ≡ Some (Stop o.span.key) =
          ends.stops ∙ ap (λ (v : Span). Some (Stop v.key)) (sym (on-it e o)) in
          record {
            span = o.span;
            end = n;
            lasts = record {
              starts = o.starts;
              later = o.before;
              within = omega arith;
              stops = λ lt. stops;
              first = o.lasts;
            };
            ends = le;
            running = o.running;
            still = running;
          }

      -- what ends is open on the slot
      was-open : (i : ℕ) (w : IsInside events i) → w.end ≡ n → IsOpenOn events n slot (suc i)
      was-open i w to =
          let stops = ends-at n i w to in
          let key : w.span.key ≡ ends.span.key = (let e = ends.stops in cc) in
          let there : Has (spans_before events n) w.span = (open-is h n w.span (omega arith)).0 (
            i,
            (let lt = w.lasts.later in omega arith),
            w.lasts.starts,
            (λ k from before. w.lasts.first k from (omega arith)),
          ) in
          let one = ends.one w.span there (inl key) in
          lasting n i w slot to (ap (λ (v : Span). v.place) one ∙ ends.place)

      -- where the open attempt of the slot is noted, its start is taken out
      pub starts-cut : (old new : BTreeSet ℕ) (running : BTreeMap ℕ ℕ) (e : ℕ)
          → is_running events n ≡ true → get nat_cmp running slot ≡ Some e → AreOpen n running
          → Changes old e false new
          → AreStarts n old → AreStarts (suc n) new
      starts-cut old new running e goes_on is are_open cut are = (none, each)
        where
          o : IsOpenOn events n slot e
          o = (are_open slot e).0 is

          none : contains nat_cmp new 0 ≡ false
          none = cut 0 ∙ by (is_at (nat_cmp e) 0)
            where
              by : (b : Bool) → cond b false (contains nat_cmp old 0) ≡ false
              by true = refl
              by false = are.0

          out : (i : ℕ) → e ≡ suc i → IsOutsideBefore events (suc n) i → ⊥
          out i same x =
              let at : o.start ≡ i = (let numbered = o.numbered in omega arith) in
              let w = subst (IsInside events) at (inside e o goes_on) in
              x.outside (found i at)
            where
              found : (i : ℕ) → o.start ≡ i → IsInsideBefore events (suc n) i
              found i at =
                  subst (IsInsideBefore events (suc n)) at (inside e o goes_on, omega arith)

          each : (i : ℕ) → (contains nat_cmp new (suc i) ≡ true) ↔ IsOutsideBefore events (suc n) i
          each i = elim (at-number e (suc i)) [
            | inl here ↦
                let value : contains nat_cmp new (suc i) ≡ false =
                cut (suc i) ∙ ap (λ b. cond b false (contains nat_cmp old (suc i))) here.0 in (
                  (λ in_set. absurd (false≢true (sym value ∙ in_set))),
                  (λ x. absurd (out i here.1 x)),
                )
            | inr there ↦
                let same =
                cut (suc i) ∙ ap (λ b. cond b false (contains nat_cmp old (suc i))) there.0 in (
                  (λ in_set. outside-more n i ((are.1 i).0 (sym same ∙ in_set)) (λ w to.
                      there.1 (let value = (are_open slot (suc i)).1 (was-open i w to) in
                      (let both = is in cc)))),
                  (λ x. same ∙ (are.1 i).1 (outside-less n i (started-before n i attempt x) x)),
                )
          ]

      -- where none is noted, nothing changes
      pub starts-kept : (old : BTreeSet ℕ) (running : BTreeMap ℕ ℕ)
          → get nat_cmp running slot ≡ None → AreOpen n running → AreStarts n old
          → AreStarts (suc n) old
      starts-kept old running none are_open are = (
        are.0,
        (λ i. (
          (λ in_set. outside-more n i ((are.1 i).0 in_set) (λ w to. let value =
              (are_open slot (suc i)).1 (was-open i w to) in let n = none in cc)),
          (λ x. (are.1 i).1 (outside-less n i (started-before n i attempt x) x)),
        )),
      )

      -- while the run doesn't go on, nothing is found to be inside
      pub starts-outside : (old : BTreeSet ℕ) → is_running events n ≡ false → AreStarts n old
          → AreStarts (suc n) old
      starts-outside old off are = (
        are.0,
        (λ i. (
          (λ in_set. outside-more n i ((are.1 i).0 in_set)
              (λ w to. false≢true (sym off ∙ subst (λ k. is_running events k ≡ true) to w.still))),
          (λ x. (are.1 i).1 (outside-less n i (started-before n i attempt x) x)),
        )),
      )

      pub open-cut : (old new : BTreeMap ℕ ℕ) → Sets old slot None new → AreOpen n old
          → AreOpen (suc n) new
      open-cut old new cut are p e = elim (at-number slot p) [
        | inl here ↦
            let value : get nat_cmp new p ≡ None =
            cut p ∙ ap (λ b. cond b None (get nat_cmp old p)) here.0 in (
              (λ is. let both = value in absurd (cc)),
              (λ o. absurd (over (subst (λ q. IsOpenOn events (suc n) q e) (sym here.1) o))),
            )
        | inr there ↦
            let same : get nat_cmp new p ≡ get nat_cmp old p =
            cut p ∙ ap (λ b. cond b None (get nat_cmp old p)) there.0 in (
              (λ is. goes-on p e there.1 ((are p e).0 (sym same ∙ is))),
              (λ o. same ∙ (are p e).1 (open-less n p e o (earlier p e o))),
            )
      ]
        where
          earlier : (p e : ℕ) (o : IsOpenOn events (suc n) p e) → o.start < n
          earlier p e o = elim (below-suc o.start n o.before) [
            | inl same ↦ (let a = subst (λ k. change_at h k ≡ Some (Start o.span)) same o.starts in
                let b = ends.stops in absurd cc)
            | inr lt ↦ lt
          ]

          over : IsOpenOn events (suc n) slot e → ⊥
          over o =
              let lt = earlier slot e o in
              let before = open-less n slot e o lt in
              o.lasts n lt (omega arith)
              (ends.stops ∙ ap (λ (v : Span). Some (Stop v.key)) (sym (on-it e before)))

          goes-on : (p e : ℕ) → slot ≢ p → IsOpenOn events n p e → IsOpenOn events (suc n) p e
          goes-on p e other o = open-more n p e o (λ stops.
              let key : o.span.key ≡ ends.span.key = (let s = ends.stops in cc) in
              let one = ends.one o.span (is-there n p e o (omega arith)) (inl key) in
              let both : places.Slot slot ≡ places.Slot p =
              sym ends.place ∙ ap (λ (v : Span). v.place) (sym one) ∙ o.place in
              other cc)

    -- ---- neither

    module _ (quiet : IsNoAttempt events n) where
      pub starts-same : (old : BTreeSet ℕ) → AreStarts n old → AreStarts (suc n) old
      starts-same old are = (
        are.0,
        (λ i. (
          (λ in_set. let o = (are.1 i).0 in_set in outside-more n i o (λ w to.
              let t = test-of i w.span o.starts w.lasts.starts in
              quiet.no_stop t.0 (ends-at n i w to ∙ ap (λ k. Some (Stop k)) t.1))),
          (λ x. (are.1 i).1 (outside-less n i (started-before n i quiet.no_start x) x)),
        )),
      )

      pub open-same : (old : BTreeMap ℕ ℕ) → AreOpen n old → AreOpen (suc n) old
      open-same old are p e = (
        (λ is. let o = (are p e).0 is in open-more n p e o (λ stops.
            let t = on-slot n p e o (omega arith) in
            quiet.no_stop t.0 (stops ∙ ap (λ k. Some (Stop k)) t.1))),
        (λ o. (are p e).1 (open-less n p e o (earlier o))),
      )
        where
          earlier : (o : IsOpenOn events (suc n) p e) → o.start < n
          earlier o = elim (below-suc o.start n o.before) [
            | inl same ↦ absurd (quiet.no_span o.span p
                (subst (λ k. change_at h k ≡ Some (Start o.span)) same o.starts) o.place)
            | inr lt ↦ lt
          ]

  -- no attempt has started while a run goes on that starts now
  pub none-open : (n : ℕ) (running : BTreeMap ℕ ℕ) → marks_before events n ≡ []
      → ((slot : ℕ) → get nat_cmp running slot ≡ None) → AreOpen (suc n) running
  none-open n running none empty p e = (
    (λ is. let no_entry = empty p in absurd cc),
    (λ o. let lt = o.before in absurd (false≢true
        (ap is_begun (sym (none-before events o.start n (omega arith) none)) ∙ o.running))),
  )
