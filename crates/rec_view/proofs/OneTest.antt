-- Each start of an attempt is one of exactly one test.
use Rattle.std.proofs.Common.{◌≡◌, ◌≤◌, ◌<◌, ◌⊎◌, inl, inr, ℕ, zero, suc, ◌+◌, Bool, true, false}
use Rattle.std.proofs.Common.{◌&&◌, not, List, [], ◌∷◌, drop, take, reverse, slice_get}
use Rattle.std.proofs.Common.{refl, ap, sym, ◌∙◌, arith, Option, Some, None, is_some}
use Rattle.std.proofs.Common.{option_to_list, subst, if◌then◌else◌}
use Rattle.std.specs.List.{find}
use Rattle.std.specs.Option.{option_map_or}
use Rattle.rec_events.proofs.TestOrder.{test_eq-self, test_eq-true}
use Rattle.rec_events.specs.declared.instances.OwnedTestInstanceId.{OwnedTestInstanceId}
use Rattle.rec_events.specs.Tests.{test_eq}
use Rattle.rec_spans.proofs.PlacesOfHistory.{Has-filter}
use Rattle.rec_spans.specs.Positions.{Has}
use Rattle.rec_view.proofs.AttemptPositions.{attempt_from, attempt_to}
use Rattle.rec_view.proofs.Attempts.{differ}
use Rattle.rec_view.proofs.Ends.{ahead, at-drop}
use Rattle.rec_view.proofs.Open.{one_open}
use Rattle.rec_view.proofs.TestPositions.{IsOpened, test_from, test_to}
use Rattle.rec_view.specs.Acts.Act.{Starts, Retries, Fails, Ends, Skips, RunEnds, Silent}
use Rattle.rec_view.specs.Acts.{Act}
use Rattle.rec_view.specs.AttemptPositions.{IsAttempt, OfOneTest, starts_attempt}
use Rattle.rec_view.specs.Ends.{at}
use Rattle.rec_view.specs.Open.{OneOpen, is_open, open_of}
use Rattle.rec_view.specs.Tests.{Place, fate, is_running, is_start, opened, opens, place, settles}
use Rattle.rec_view.specs.Tests.{tests}

-- ---- the events before a position

get-take : {X : Type 0} (k : ℕ) (xs : List X) (j : ℕ) → j < k
    → slice_get (take k xs) j ≡ slice_get xs j
get-take zero xs j h = absurd (omega (arith, h))
get-take (suc k) [] j h = refl
get-take (suc k) (x ∷ xs) zero h = refl
get-take (suc k) (x ∷ xs) (suc j) h = get-take k xs j (omega (arith, h))

get-past : {X : Type 0} (k : ℕ) (xs : List X) (j : ℕ) → k ≤ j → slice_get (take k xs) j ≡ None
get-past zero xs j h = refl
get-past (suc k) [] j h = refl
get-past (suc k) (x ∷ xs) zero h = absurd (omega (arith, h))
get-past (suc k) (x ∷ xs) (suc j) h = get-past k xs j (omega (arith, h))

take-less : {X : Type 0} (j k : ℕ) (xs : List X) → j ≤ k → take j (take k xs) ≡ take j xs
take-less zero k xs h = refl
take-less (suc j) zero xs h = absurd (omega (arith, h))
take-less (suc j) (suc k) [] h = refl
take-less (suc j) (suc k) (x ∷ xs) h = ap (λ ys. x ∷ ys) (take-less j k xs (omega (arith, h)))

-- ---- what is found

not_found : {X : Type 0} (f : X → Bool) (xs : List X) → is_some (find f xs) ≡ false → (m : ℕ)
    → option_map_or f (slice_get xs m) false ≡ false
not_found f [] h m = refl
not_found f (x ∷ xs) h zero = by (f x) refl h
  where
    by : (b : Bool) → f x ≡ b → is_some (if b then Some x else find f xs) ≡ false → f x ≡ false
    by true e k = differ k
    by false e k = e
not_found f (x ∷ xs) h (suc m) = by (f x) h (λ k. not_found f xs k m)
  where
    by : (b : Bool) → is_some (if b then Some x else find f xs) ≡ false
        → (is_some (find f xs) ≡ false → option_map_or f (slice_get xs m) false ≡ false)
        → option_map_or f (slice_get xs m) false ≡ false
    by true k more = differ k
    by false k more = more k

none_found : {X : Type 0} (f : X → Bool) (xs : List X)
    → ((m : ℕ) → option_map_or f (slice_get xs m) false ≡ false) → is_some (find f xs) ≡ false
none_found f [] h = refl
none_found f (x ∷ xs) h = by (f x) (h zero) (none_found f xs (λ m. h (suc m)))
  where
    by : (b : Bool) → b ≡ false → is_some (find f xs) ≡ false
        → is_some (if b then Some x else find f xs) ≡ false
    by true e more = differ e
    by false e more = more

and_left : (a b : Bool) → (a && b) ≡ true → a ≡ true
and_left true b h = refl
and_left false b h = differ (sym h)

and_right : (a b : Bool) → (a && b) ≡ true → b ≡ true
and_right true b h = h
and_right false b h = differ (sym h)

not_true : (b : Bool) → not b ≡ true → b ≡ false
not_true true h = differ (sym h)
not_true false h = refl

-- ---- an attempt that starts at a position

module _ (acts : List Act) (k : ℕ) where
  abbrev before : List Act
  before = take k acts

  -- a test of the events before is one of all
  old_test : (p : Place) → Has (tests before) p → (p.at < k) × Has (tests acts) p
  old_test p has = by (split p.at) (test_to before p has)
    where
      split : (j : ℕ) → (j < k) ⊎ (k ≤ j)
      split j = grind arith

      by : (p.at < k) ⊎ (k ≤ p.at) → IsOpened before p → (p.at < k) × Has (tests acts) p
      by (inr h) o = absurd (none (sym (get-past k acts p.at h) ∙ o.stands))
        where
          none : None ≡ Some o.act → ⊥
          none e = cc
      by (inl h) o = (
        h,
        test_from acts p (record {
          act = o.act;
          stands = sym (get-take k acts p.at h) ∙ o.stands;
          opens = subst (λ xs. Has (opened (reverse xs) o.act) p.test)
              (take-less p.at k acts (omega (arith, h))) o.opens;
        }),
      )

  first_test : (p : Place) → p.at < k → Has (tests acts) p → Has (tests before) p
  first_test p h has =
      let o = test_to acts p has in
      test_from before p (record {
        act = o.act;
        stands = get-take k acts p.at h ∙ o.stands;
        opens = subst (λ xs. Has (opened (reverse xs) o.act) p.test)
            (sym (take-less p.at k acts (omega (arith, h)))) o.opens;
      })

  -- a test whose attempt starts later than it is open before
  later_open : (p : Place) → p.at < k → IsAttempt acts p k → is_open before p ≡ true
  later_open p h a =
      ap (λ o. option_map_or is_start o false && not (is_some (fate before p)))
      (get-take k acts p.at h)
      ∙ ap (λ b. b && not (is_some (fate before p))) a.opened
      ∙ ap not (none_found (settles p.test) (drop (suc p.at) before) none)
    where
      split : (j : ℕ) → (j < k) ⊎ (k ≤ j)
      split j = grind arith

      at_place : (j : ℕ) → p.at < j → (j < k) ⊎ (k ≤ j) → at (settles p.test) before j ≡ false
      at_place j l (inl u) =
          ap (λ o. option_map_or (settles p.test) o false) (get-take k acts j u)
          ∙ a.still j l (omega (arith, u))
      at_place j l (inr u) =
          ap (λ o. option_map_or (settles p.test) o false) (get-past k acts j u)

      none : (m : ℕ)
          → option_map_or (settles p.test) (slice_get (drop (suc p.at) before) m) false ≡ false
      none m = at-drop (settles p.test) before (suc p.at) m
          ∙ at_place (suc p.at + m) (omega arith) (split (suc p.at + m))

  -- a test that is open before has a further attempt here
  open_attempt : (p : Place) → p.at < k → is_open before p ≡ true
      → at (starts_attempt p.test) acts k ≡ true → at (settles p.test) acts k ≡ false
      → IsAttempt acts p k
  open_attempt p h e starts quiet = record {
    opened = sym (ap (λ o. option_map_or is_start o false) (get-take k acts p.at h))
        ∙ and_left (opens before p) (not (is_some (fate before p))) e;
    from = omega (arith, h);
    starts = starts;
    still = λ j l u. at_place j l (split j u);
  }
    where
      split : (j : ℕ) → j ≤ k → (j < k) ⊎ (j ≡ k)
      split j u = grind (arith, u)

      none : (m : ℕ) → option_map_or (settles p.test) (slice_get (drop (suc p.at) before) m) false
          ≡ false
      none = not_found (settles p.test) (drop (suc p.at) before)
          (not_true (is_some (fate before p))
          (and_right (opens before p) (not (is_some (fate before p))) e))

      at_place : (j : ℕ) → p.at < j → (j < k) ⊎ (j ≡ k) → at (settles p.test) acts j ≡ false
      at_place j l (inr is) = ap (at (settles p.test) acts) is ∙ quiet
      at_place j l (inl u) =
          let d = ahead (suc p.at) j (omega (arith, l)) in
          sym (ap (λ o. option_map_or (settles p.test) o false) (get-take k acts j u))
          ∙ ap (at (settles p.test) before) d.1
          ∙ sym (at-drop (settles p.test) before (suc p.at) d.0)
          ∙ none d.0

  same_place : (p : Place) (t : OwnedTestInstanceId) → p.at ≡ k → p.test ≡ t → p ≡ place k t
  same_place p t e f = λ i. record { at = e i; test = f i }

  module _ (s : OwnedTestInstanceId) where
    -- the event opens a test
    opens_one : (act : Act) → slice_get acts k ≡ Some act → is_start act ≡ true
        → starts_attempt s act ≡ true
        → ((p : Place) → starts_attempt p.test act ≡ true → p.test ≡ s)
        → Has (opened (reverse before) act) s
        → ((p : Place) → p.at < k → Has (tests acts) p → IsAttempt acts p k → p ≡ place k s)
        → OfOneTest acts s k
    opens_one act is start starts named has no_other = record {
      test = place k s;
      stands = test_from acts (place k s) (record { act = act; stands = is; opens = has });
      named = refl;
      its = attempt_from acts (place k s) k (record {
        opened = ap (λ o. option_map_or is_start o false) is ∙ start;
        from = omega arith;
        starts = ap (λ o. option_map_or (starts_attempt s) o false) is ∙ starts;
        still = λ j l u. absurd (omega (arith, l, u));
      });
      only = λ q stands its. one q stands (attempt_to acts q stands k its);
    }
      where
        split : (j : ℕ) → j ≤ k → (j < k) ⊎ (j ≡ k)
        split j u = grind (arith, u)

        one : (q : Place) → Has (tests acts) q → IsAttempt acts q k → q ≡ place k s
        one q stands a = by (split q.at a.from)
          where
            by : (q.at < k) ⊎ (q.at ≡ k) → q ≡ place k s
            by (inl h) = no_other q h stands a
            by (inr e) = same_place q s e (named q
                (sym (ap (λ o. option_map_or (starts_attempt q.test) o false) is) ∙ a.starts))

    of_start : slice_get acts k ≡ Some (Starts s) → OfOneTest acts s k
    of_start is =
        opens_one (Starts s) is refl (test_eq-self s)
        (λ p e. sym (test_eq-true s p.test e)) (inl refl)
        (λ p h stands a. differ (sym a.starts
        ∙ ap (λ o. option_map_or (starts_attempt p.test) o false) is
        ∙ sym (ap (λ o. option_map_or (settles p.test) o false) is)
        ∙ a.still k h (omega arith)))

    -- an open test of the name
    of_open : (p : Place) → p.test ≡ s → p.at < k → Has (tests acts) p → is_open before p ≡ true
        → Has (open_of s before) p
    of_open p named h stands e =
        (Has-filter (λ q. test_eq q.test s && is_open before q) p (tests before)).1 (
          first_test p h stands,
          ap (λ t. test_eq t s && is_open before p) named
              ∙ ap (λ b. b && is_open before p) (test_eq-self s) ∙ e,
        )

    of_retry : slice_get acts k ≡ Some (Retries s) → OfOneTest acts s k
    of_retry is = by (is_running s (reverse before)) refl one.place one.all one.runs
      where
        one : OneOpen before s
        one = one_open before s

        named : (p : Place) → IsAttempt acts p k → p.test ≡ s
        named p a = sym (test_eq-true s p.test
            (sym (ap (λ o. option_map_or (starts_attempt p.test) o false) is) ∙ a.starts))

        found : (p : Place) → p.at < k → Has (tests acts) p → IsAttempt acts p k
            → Has (open_of s before) p
        found p h stands a = of_open p (named p a) h stands (later_open p h a)

        retried : (p : Place) → p.test ≡ s → Has (tests before) p → is_open before p ≡ true
            → IsAttempt acts p k
        retried p e has o =
            open_attempt p (old_test p has).0 o
            (ap (λ x. option_map_or (starts_attempt p.test) x false) is
            ∙ ap (test_eq s) e ∙ test_eq-self s)
            (ap (λ x. option_map_or (settles p.test) x false) is)

        has_opened : (b : Bool) → is_running s (reverse before) ≡ b
            → (t : OwnedTestInstanceId) → Has (opened (reverse before) (Retries s)) t
            → Has (if b then [] else s ∷ []) t
        has_opened b e t has =
            subst (λ c. Has (if c then [] else s ∷ []) t) e has

        at_here : (q : Place) → q.at ≡ k → Has (tests acts) q
            → Has (opened (reverse before) (Retries s)) q.test
        at_here q e stands =
            let o = test_to acts q stands in
            subst (λ a. Has (opened (reverse before) a) q.test)
            (some_is (sym o.stands ∙ ap (slice_get acts) e ∙ is))
            (subst (λ n. Has (opened (reverse (take n acts)) o.act) q.test) e o.opens)
          where
            some_is : {X : Type 0} {x y : X} → Some x ≡ Some y → x ≡ y
            some_is h = cc

        split : (j : ℕ) → j ≤ k → (j < k) ⊎ (j ≡ k)
        split j u = grind (arith, u)

        by : (b : Bool) → is_running s (reverse before) ≡ b → (o : Option Place)
            → open_of s before ≡ option_to_list o → is_running s (reverse before) ≡ is_some o
            → OfOneTest acts s k
        by true e None all runs = differ (sym e ∙ runs)
        by false e (Some p) all runs = differ (sym runs ∙ e)
        by false e None all runs =
            opens_one (Retries s) is refl (test_eq-self s)
            (λ p h. sym (test_eq-true s p.test h))
            (subst (λ b. Has (if b then [] else s ∷ []) s) (sym e) (inl refl))
            (λ p h stands a. absurd (subst (λ ps. Has ps p) all (found p h stands a)))
        by true e (Some p) all runs =
            let picked = (Has-filter (λ q. test_eq q.test s && is_open before q) p
            (tests before)).0 (subst (λ ps. Has ps p) (sym all) (inl refl)) in
            let same = test_eq-true p.test s
            (and_left (test_eq p.test s) (is_open before p) picked.1) in
            record {
              test = p;
              stands = (old_test p picked.0).1;
              named = same;
              its = attempt_from acts p k (retried p same picked.0
                  (and_right (test_eq p.test s) (is_open before p) picked.1));
              only = λ q stands its. one_of q stands (attempt_to acts q stands k its);
            }
          where
            one_of : (q : Place) → Has (tests acts) q → IsAttempt acts q k → q ≡ p
            one_of q stands a = at_place (split q.at a.from)
              where
                only_p : Has (p ∷ []) q → q ≡ p
                only_p (inl f) = sym f
                only_p (inr none) = absurd none

                at_place : (q.at < k) ⊎ (q.at ≡ k) → q ≡ p
                at_place (inl h) = only_p (subst (λ ps. Has ps q) all (found q h stands a))
                at_place (inr f) = absurd (has_opened true e q.test (at_here q f stands))

  pub of_one : (t : OwnedTestInstanceId) → at (starts_attempt t) acts k ≡ true → OfOneTest acts t k
  of_one t h = by (slice_get acts k) refl h
    where
      renamed : (s : OwnedTestInstanceId) → test_eq s t ≡ true → OfOneTest acts s k
          → OfOneTest acts t k
      renamed s e o = subst (λ u. OfOneTest acts u k) (test_eq-true s t e) o

      by : (o : Option Act) → slice_get acts k ≡ o → option_map_or (starts_attempt t) o false ≡ true
          → OfOneTest acts t k
      by None e f = differ (sym f)
      by (Some (Starts s)) e f = renamed s f (of_start s e)
      by (Some (Retries s)) e f = renamed s f (of_retry s e)
      by (Some (Fails s)) e f = differ (sym f)
      by (Some (Ends s v)) e f = differ (sym f)
      by (Some (Skips s)) e f = differ (sym f)
      by (Some (RunEnds names)) e f = differ (sym f)
      by (Some Silent) e f = differ (sym f)
