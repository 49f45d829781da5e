-- Ends of arrows that pair, with one end more.
use Rattle.std.proofs.Common.{◌≡◌, ◌<◌, ◌⊎◌, ℕ, suc, Bool, true, false, cond, List, [], ◌∷◌, ◌++◌}
use Rattle.std.proofs.Common.{Option, Some, None, refl, sym, ◌∙◌, ap, subst, inl, inr, arith}
use Rattle.rec_events.proofs.TestOrder.{test_eq-self, test_eq-true}
use Rattle.rec_events.specs.declared.instances.OwnedTestInstanceId.{OwnedTestInstanceId}
use Rattle.rec_events.specs.Tests.{test_eq}
use Rattle.rec_spans.proofs.EventMarks.{Has-append}
use Rattle.rec_spans.specs.Positions.{Has}
use Rattle.rec_trace.specs.Arrows.ArrowEnd.{Starts, Finishes}
use Rattle.rec_trace.specs.Arrows.{ArrowEnd, ArrowsPair}
use Rattle.rec_trace.specs.Known.{of_test}

-- ---- ends

-- what is among ends with one more
has-push : (ends : List ArrowEnd) (e x : ArrowEnd) → Has (ends ++ e ∷ []) x → Has ends x ⊎ (e ≡ x)
has-push ends e x h = elim ((Has-append ends (e ∷ []) x).0 h) [
  | inl w ↦ inl w
  | inr w ↦ elim w [ inl p ↦ inr p | inr v ↦ absurd v ]
]

has-old : (ends : List ArrowEnd) (e x : ArrowEnd) → Has ends x → Has (ends ++ e ∷ []) x
has-old ends e x h = (Has-append ends (e ∷ []) x).1 (inl h)

has-new : (ends : List ArrowEnd) (e : ArrowEnd) → Has (ends ++ e ∷ []) e
has-new ends e = (Has-append ends (e ∷ []) e).1 (inr (inl refl))

starts-same : {a b : OwnedTestInstanceId} {m n : ℕ} → Starts a m ≡ Starts b n → (a ≡ b) × (m ≡ n)
starts-same e = (cc, cc)

finishes-same : {a b : OwnedTestInstanceId} {m n : ℕ} → Finishes a m ≡ Finishes b n
    → (a ≡ b) × (m ≡ n)
finishes-same e = (cc, cc)

no-both : {a b : OwnedTestInstanceId} {m n : ℕ} → Starts a m ≡ Finishes b n → ⊥
no-both e = cc

not-empty : (before after : List ArrowEnd) (y : ArrowEnd) → [] ≡ before ++ y ∷ after → ⊥
not-empty [] after y e = cc
not-empty (b ∷ before) after y e = cc

-- an end among ends with one more is that one, or stands among the others
split-push : (ends before after : List ArrowEnd) (x y : ArrowEnd)
    → ends ++ x ∷ [] ≡ before ++ y ∷ after
    → ((ends ≡ before) × (x ≡ y)) ⊎ ((rest : List ArrowEnd) × (ends ≡ before ++ y ∷ rest))
split-push [] [] after x y e = inl (refl, cc)
split-push [] (b ∷ before) after x y e = absurd (not-empty before after y cc)
split-push (z ∷ ends) [] after x y e = inr (ends, cc)
split-push (z ∷ ends) (b ∷ before) after x y e =
    let first : z ≡ b = cc in
    let more : ends ++ x ∷ [] ≡ before ++ y ∷ after = cc in
    elim (split-push ends before after x y more) [
      | inl w ↦ inl ((let is = w.0 in cc), w.1)
      | inr w ↦ inr (w.0, (let is = w.1 in cc))
    ]

-- ends that pair, and the start of a number that has none
pair-start : (ends : List ArrowEnd) (test : OwnedTestInstanceId) (flow : ℕ) → ArrowsPair ends
    → ((other : OwnedTestInstanceId) → Has ends (Starts other flow) → ⊥)
    → ArrowsPair (ends ++ Starts test flow ∷ [])
pair-start ends test flow pair fresh = record {
  starts_once =
      λ before after a other n is has.
      elim (split-push ends before after (Starts test flow) (Starts a n) is) [
        | inl w ↦ fresh other (subst (λ m. Has ends (Starts other m)) (sym (starts-same w.1).1)
            (subst (λ v. Has v (Starts other n)) (sym w.0) has))
        | inr w ↦ pair.starts_once before w.0 a other n w.1 has
      ];
  has_start =
      λ before after a n is.
      elim (split-push ends before after (Starts test flow) (Finishes a n) is) [
        | inl w ↦ absurd (no-both w.1)
        | inr w ↦ pair.has_start before w.0 a n w.1
      ];
  finishes_once =
      λ before after a other n is has.
      elim (split-push ends before after (Starts test flow) (Finishes a n) is) [
        | inl w ↦ no-both w.1
        | inr w ↦ pair.finishes_once before w.0 a other n w.1 has
      ];
}

-- ends that pair, and the finish of a number that has a start for the test and no finish
pair-finish : (ends : List ArrowEnd) (test : OwnedTestInstanceId) (flow : ℕ) → ArrowsPair ends
    → Has ends (Starts test flow)
    → ((other : OwnedTestInstanceId) → Has ends (Finishes other flow) → ⊥)
    → ArrowsPair (ends ++ Finishes test flow ∷ [])
pair-finish ends test flow pair start none = record {
  starts_once =
      λ before after a other n is has.
      elim (split-push ends before after (Finishes test flow) (Starts a n) is) [
        | inl w ↦ no-both (sym w.1)
        | inr w ↦ pair.starts_once before w.0 a other n w.1 has
      ];
  has_start =
      λ before after a n is.
      elim (split-push ends before after (Finishes test flow) (Finishes a n) is) [
        | inl w ↦ subst (λ v. Has v (Starts a n)) w.0 (subst (λ m. Has ends (Starts a m))
            (finishes-same w.1).1
            (subst (λ x. Has ends (Starts x flow)) (finishes-same w.1).0 start))
        | inr w ↦ pair.has_start before w.0 a n w.1
      ];
  finishes_once =
      λ before after a other n is has.
      elim (split-push ends before after (Finishes test flow) (Finishes a n) is) [
        | inl w ↦ none other (subst (λ m. Has ends (Finishes other m)) (sym (finishes-same w.1).1)
            (subst (λ v. Has v (Finishes other n)) (sym w.0) has))
        | inr w ↦ pair.finishes_once before w.0 a other n w.1 has
      ];
}

-- ---- ends so far and pending arrows

-- the ends so far pair, and have numbers below the next one. A pending arrow has its start among
-- them, for its test, and no finish, and no two tests have one number
pub record Paired (flow : ℕ) (arrow : OwnedTestInstanceId → Option ℕ)
    (ends : List ArrowEnd) : Type 0 where
  pub pair : ArrowsPair ends
  pub starts_below : (test : OwnedTestInstanceId) (n : ℕ) → Has ends (Starts test n) → n < flow
  pub finishes_below : (test : OwnedTestInstanceId) (n : ℕ) → Has ends (Finishes test n) → n < flow
  pub started : (test : OwnedTestInstanceId) (n : ℕ) → arrow test ≡ Some n
      → Has ends (Starts test n)
  pub unfinished : (test other : OwnedTestInstanceId) (n : ℕ) → arrow test ≡ Some n
      → Has ends (Finishes other n) → ⊥
  pub apart : (a b : OwnedTestInstanceId) (n : ℕ) → arrow a ≡ Some n → arrow b ≡ Some n → a ≡ b

-- at the start there are no ends, and none is pending
pub paired-none : Paired 0 (λ test. None) []
paired-none = record {
  pair = record {
    starts_once = λ before after test other n is has. not-empty before after (Starts test n) is;
    has_start = λ before after test n is. absurd (not-empty before after (Finishes test n) is);
    finishes_once = λ before after test other n is has. not-empty before after (Finishes test n) is;
  };
  starts_below = λ test n has. absurd has;
  finishes_below = λ test n has. absurd has;
  started = λ test n is. cc;
  unfinished = λ test other n is has. has;
  apart = λ a b n is also. cc;
}

-- what is pending where the arrow of one test is set, or taken away
of_test-is : (test other : OwnedTestInstanceId) (now : Option ℕ)
    (before : OwnedTestInstanceId → Option ℕ) (n : ℕ)
    → of_test test now before other ≡ Some n →
    ((test ≡ other) × (now ≡ Some n)) ⊎ ((test_eq test other ≡ false) × (before other ≡ Some n))
of_test-is test other now before n = go (test_eq test other) refl
  where
    go : (b : Bool) → test_eq test other ≡ b → cond b now (before other) ≡ Some n
        → ((test ≡ other) × (now ≡ Some n))
        ⊎ ((test_eq test other ≡ false) × (before other ≡ Some n))
    go true same is = inl (test_eq-true test other same, is)
    go false apart is = inr (apart, is)

not-same : (test other : OwnedTestInstanceId) → test_eq test other ≡ false → test ≡ other → ⊥
not-same test other differ same =
    let pass : test_eq test other ≡ true =
    subst (λ o. test_eq test o ≡ true) same (test_eq-self test) in
    cc

no-some : {X : Type 0} {n : X} → None ≡ Some n → ⊥
no-some e = cc

module _ (flow : ℕ) (arrow : OwnedTestInstanceId → Option ℕ) (ends : List ArrowEnd)
    (p : Paired flow arrow ends) (test : OwnedTestInstanceId) where
  kept : (other : OwnedTestInstanceId) (n : ℕ) → of_test test None arrow other ≡ Some n
      → (test_eq test other ≡ false) × (arrow other ≡ Some n)
  kept other n is =
      elim (of_test-is test other None arrow n is) [ inl w ↦ absurd (no-some w.1) | inr w ↦ w ]

  -- the arrow of a test is no longer pending
  pub paired-without : Paired flow (of_test test None arrow) ends
  paired-without = record {
    pair = p.pair;
    starts_below = p.starts_below;
    finishes_below = p.finishes_below;
    started = λ a n is. p.started a n (kept a n is).1;
    unfinished = λ a other n is. p.unfinished a other n (kept a n is).1;
    apart = λ a b n is also. p.apart a b n (kept a n is).1 (kept b n also).1;
  }

  -- the pending arrow of a test finishes
  pub paired-finish : (m : ℕ) → arrow test ≡ Some m
      → Paired flow (of_test test None arrow) (ends ++ Finishes test m ∷ [])
  paired-finish m pends = record {
    pair =
        pair-finish ends test m p.pair (p.started test m pends)
        (λ other. p.unfinished test other m pends);
    starts_below = λ a n has. elim (has-push ends (Finishes test m) (Starts a n) has) [
      | inl w ↦ p.starts_below a n w
      | inr e ↦ absurd (no-both (sym e))
    ];
    finishes_below = λ a n has. elim (has-push ends (Finishes test m) (Finishes a n) has) [
      | inl w ↦ p.finishes_below a n w
      | inr e ↦
          subst (λ v. v < flow) (finishes-same e).1 (p.starts_below test m (p.started test m pends))
    ];
    started = λ a n is. has-old ends (Finishes test m) (Starts a n) (p.started a n (kept a n is).1);
    unfinished = λ a other n is has. elim (has-push ends (Finishes test m) (Finishes other n) has) [
      | inl w ↦ p.unfinished a other n (kept a n is).1 w
      | inr e ↦ not-same test a (kept a n is).0
          (p.apart test a n (pends ∙ ap Some (finishes-same e).1) (kept a n is).1)
    ];
    apart = λ a b n is also. p.apart a b n (kept a n is).1 (kept b n also).1;
  }

  fresh : (other : OwnedTestInstanceId) → Has ends (Starts other flow) → ⊥
  fresh other has = let below = p.starts_below other flow has in omega arith

  fresh_finish : (other : OwnedTestInstanceId) → Has ends (Finishes other flow) → ⊥
  fresh_finish other has = let below = p.finishes_below other flow has in omega arith

  -- a test starts an arrow of the next number
  pub paired-start : Paired (suc flow) (of_test test (Some flow) arrow)
      (ends ++ Starts test flow ∷ [])
  paired-start = record {
    pair = pair-start ends test flow p.pair fresh;
    starts_below = λ a n has. elim (has-push ends (Starts test flow) (Starts a n) has) [
      | inl w ↦ (let below = p.starts_below a n w in omega arith)
      | inr e ↦ (let same = (starts-same e).1 in omega arith)
    ];
    finishes_below = λ a n has. elim (has-push ends (Starts test flow) (Finishes a n) has) [
      | inl w ↦ (let below = p.finishes_below a n w in omega arith)
      | inr e ↦ absurd (no-both e)
    ];
    started = λ a n is. elim (of_test-is test a (Some flow) arrow n is) [
      | inl w ↦ (let number : flow ≡ n = (let e = w.1 in cc) in
          subst (λ m. Has (ends ++ Starts test flow ∷ []) (Starts a m)) number
          (subst (λ x. Has (ends ++ Starts test flow ∷ []) (Starts x flow)) w.0
          (has-new ends (Starts test flow))))
      | inr w ↦ has-old ends (Starts test flow) (Starts a n) (p.started a n w.1)
    ];
    unfinished =
        λ a other n is has. elim (has-push ends (Starts test flow) (Finishes other n) has) [
          | inl old ↦ elim (of_test-is test a (Some flow) arrow n is) [
            | inl w ↦ (let number : flow ≡ n = (let e = w.1 in cc) in
                fresh_finish other (subst (λ m. Has ends (Finishes other m)) (sym number) old))
            | inr w ↦ p.unfinished a other n w.1 old
          ]
          | inr e ↦ no-both e
        ];
    apart = λ a b n is also. elim (of_test-is test a (Some flow) arrow n is) [
      | inl w ↦ elim (of_test-is test b (Some flow) arrow n also) [
        | inl v ↦ sym w.0 ∙ v.0
        | inr v ↦ (let number : flow ≡ n = (let e = w.1 in cc) in
            absurd (fresh b (subst (λ m. Has ends (Starts b m)) (sym number) (p.started b n v.1))))
      ]
      | inr w ↦ elim (of_test-is test b (Some flow) arrow n also) [
        | inl v ↦ (let number : flow ≡ n = (let e = v.1 in cc) in
            absurd (fresh a (subst (λ m. Has ends (Starts a m)) (sym number) (p.started a n w.1))))
        | inr v ↦ p.apart a b n w.1 v.1
      ]
    ];
  }
