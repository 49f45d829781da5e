-- How the tests of a list are parted.
use Rattle.std.proofs.Common.{◌≡◌, ℕ, Bool, true, false, cond, ◌&&◌, ◌||◌, not, List}
use Rattle.std.proofs.Common.{[], ◌∷◌, ◌++◌, map, refl, sym, ◌∙◌, ap, append_assoc}
use Rattle.std.proofs.lemmas.Bool.{false≢true}
use Rattle.std.proofs.lemmas.List.Elements.{filter-append, filter_agree}
use Rattle.std.proofs.lemmas.List.Folds.{list_any-append}
use Rattle.std.proofs.lemmas.Map.Views.{any-filter_same}
use Rattle.std.proofs.Math.Bool.{or_comm}
use Rattle.std.specs.BTreeMap.{is_at}
use Rattle.std.specs.BTreeSet.{BTreeSet, contains_by}
use Rattle.std.specs.List.{filter, flat_map, list_any}
use Rattle.std.specs.Prelude.{if◌then◌else◌, IfOk, Result, Ok, Err}
use Rattle.rec_events.proofs.TestOrder.{same_test, test_eq-true}
use Rattle.rec_events.specs.contracts.instances.OwnedTestInstanceIdOrd.TheImpl as tests
use Rattle.rec_events.specs.declared.instances.OwnedTestInstanceId.{OwnedTestInstanceId}
use Rattle.rec_events.specs.declared.recording.TestListSummary.{TestListSummary}
use Rattle.rec_events.specs.Tests.{is_listed, is_named, test_eq, test_of}
use Rattle.rec_format.specs.declared.rerun.RerunInfo.{RerunInfo}
use Rattle.rec_format.specs.declared.suites.RerunTestSuiteInfo.{RerunTestSuiteInfo}
use Rattle.rec_rerun.specs.declared.plan.Planned.{Planned}
use Rattle.rec_rerun.specs.declared.plan.RerunPlan.{RerunPlan}
use Rattle.rec_rerun.specs.Planned.{HasPlanned, is_seen}
use Rattle.rec_rerun.specs.Plans.{AreApart, firsts, gone_of, is_in, listed}
use Rattle.rec_rerun.specs.Plans.{outstanding_in, run_of, skip_of, tests_in}
use Rattle.rec_rerun.specs.Suites.{has_outstanding, has_passing}

pub append-nil : {A : Type 0} (xs : List A) → xs ++ [] ≡ xs
append-nil [] = refl
append-nil (x ∷ xs) = ap (λ ys. x ∷ ys) (append-nil xs)

-- ---- which tests a list of binaries has

in_binary : (binary : List ℕ) (names : List (List ℕ)) (t : OwnedTestInstanceId)
    → is_in (map (test_of binary) names) t ≡ is_named binary names t
in_binary binary [] t = refl
in_binary binary (n ∷ ns) t = ap (λ b. test_eq (test_of binary n) t || b) (in_binary binary ns t)

in_binaries : {X : Type 0} (binary : X → List ℕ) (names : X → List (List ℕ)) (xs : List X)
    (t : OwnedTestInstanceId)
    → is_in (flat_map (λ x. map (test_of (binary x)) (names x)) xs) t
    ≡ list_any (λ x. is_named (binary x) (names x) t) xs
in_binaries binary names [] t = refl
in_binaries binary names (x ∷ xs) t =
    list_any-append (λ test. test_eq test t) (map (test_of (binary x)) (names x))
    (flat_map (λ x. map (test_of (binary x)) (names x)) xs)
    ∙ ap (λ b. b || is_in (flat_map (λ x. map (test_of (binary x)) (names x)) xs) t)
    (in_binary (binary x) (names x) t)
    ∙ ap (λ b. is_named (binary x) (names x) t || b) (in_binaries binary names xs t)

pub in_list : (list : TestListSummary) (t : OwnedTestInstanceId)
    → is_in (tests_in list.suites) t ≡ is_listed list t
in_list list t = in_binaries (λ suite. suite.0) (λ suite. suite.1) list.suites t

pub in_outstanding : (suites : List RerunTestSuiteInfo) (t : OwnedTestInstanceId)
    → is_in (outstanding_in suites) t ≡ has_outstanding suites t
in_outstanding suites t = in_binaries (λ s. s.binary_id) (λ s. s.outstanding) suites t

-- ---- filters

in_filter : (p : OwnedTestInstanceId → Bool) (tests : List OwnedTestInstanceId)
    (t : OwnedTestInstanceId)
    → is_in (filter p tests) t ≡ (p t && is_in tests t)
in_filter p tests t =
    any-filter_same (λ test. test_eq test t) p (p t) (λ k e. ap p (test_eq-true k t e)) tests

unless-or : (a b : Bool) → (a || (not a && b)) ≡ (a || b)
unless-or true b = refl
unless-or false b = refl

in_firsts : (tests : List OwnedTestInstanceId) (t : OwnedTestInstanceId)
    → is_in (firsts tests) t ≡ is_in tests t
in_firsts [] t = refl
in_firsts (x ∷ xs) t =
    ap (λ b. test_eq x t || b) (in_filter (λ s. not (test_eq x s)) (firsts xs) t)
    ∙ unless-or (test_eq x t) (is_in (firsts xs) t)
    ∙ ap (λ b. test_eq x t || b) (in_firsts xs t)

in_listed : (list : TestListSummary) (t : OwnedTestInstanceId)
    → is_in (listed list) t ≡ is_listed list t
in_listed list t = in_firsts (tests_in list.suites) t ∙ in_list list t

-- a test more comes at the end, if it isn't there
firsts-push : (tests : List OwnedTestInstanceId) (t : OwnedTestInstanceId)
    → firsts (tests ++ t ∷ []) ≡ firsts tests ++ (if is_in tests t then [] else t ∷ [])
firsts-push [] t = refl
firsts-push (x ∷ xs) t =
    ap (λ ys. x ∷ filter (λ s. not (test_eq x s)) ys) (firsts-push xs t)
    ∙ ap (λ ys. x ∷ ys)
    (filter-append (λ s. not (test_eq x s)) (firsts xs) (if is_in xs t then [] else t ∷ []))
    ∙ ap (λ ys. x ∷ (filter (λ s. not (test_eq x s)) (firsts xs) ++ ys))
    (by (test_eq x t) (is_in xs t) refl)
  where
    by : (a b : Bool) → test_eq x t ≡ a
        → filter (λ s. not (test_eq x s)) (if b then [] else t ∷ [])
        ≡ (if a || b then [] else t ∷ [])
    by true true e = refl
    by false true e = refl
    by true false e = ap (λ a. cond (not a) (t ∷ []) []) e
    by false false e = ap (λ a. cond (not a) (t ∷ []) []) e

-- ---- the parts

module _ (info : RerunInfo) (list : TestListSummary) where
  in_run : (t : OwnedTestInstanceId)
      → is_in (run_of info list) t ≡ (not (has_passing info.test_suites t) && is_listed list t)
  in_run t =
      in_filter (λ s. not (has_passing info.test_suites s)) (listed list) t
      ∙ ap (λ b. not (has_passing info.test_suites t) && b) (in_listed list t)

  in_skip : (t : OwnedTestInstanceId)
      → is_in (skip_of info list) t ≡ (has_passing info.test_suites t && is_listed list t)
  in_skip t =
      in_filter (has_passing info.test_suites) (listed list) t
      ∙ ap (λ b. has_passing info.test_suites t && b) (in_listed list t)

  in_gone : (t : OwnedTestInstanceId)
      → is_in (gone_of info list) t ≡ (not (is_listed list t) && has_outstanding info.test_suites t)
  in_gone t =
      in_filter (λ s. not (is_listed list s)) (outstanding_in info.test_suites) t
      ∙ ap (λ b. not (is_listed list t) && b) (in_outstanding info.test_suites t)

  pub parted : (t : OwnedTestInstanceId)
      → (is_in (run_of info list) t || is_in (skip_of info list) t) ≡ is_listed list t
  parted t =
      ap (λ b. b || is_in (skip_of info list) t) (in_run t)
      ∙ ap (λ b. (not (has_passing info.test_suites t) && is_listed list t) || b) (in_skip t)
      ∙ by (has_passing info.test_suites t) (is_listed list t)
    where
      by : (p l : Bool) → ((not p && l) || (p && l)) ≡ l
      by true l = refl
      by false true = refl
      by false false = refl

  pub never_both : (t : OwnedTestInstanceId)
      → (is_in (run_of info list) t && is_in (skip_of info list) t) ≡ false
  never_both t =
      ap (λ b. b && is_in (skip_of info list) t) (in_run t)
      ∙ ap (λ b. (not (has_passing info.test_suites t) && is_listed list t) && b) (in_skip t)
      ∙ by (has_passing info.test_suites t) (is_listed list t)
    where
      by : (p l : Bool) → ((not p && l) && (p && l)) ≡ false
      by true l = refl
      by false true = refl
      by false false = refl

  pub kept : AreApart info.test_suites → (t : OwnedTestInstanceId)
      → has_outstanding info.test_suites t ≡ true
      → (is_in (run_of info list) t || is_in (gone_of info list) t) ≡ true
  kept apart t h =
      ap (λ b. b || is_in (gone_of info list) t) (in_run t)
      ∙ ap (λ b. (not (has_passing info.test_suites t) && is_listed list t) || b) (in_gone t)
      ∙ by (has_passing info.test_suites t) (is_listed list t) (has_outstanding info.test_suites t)
      (apart t) h
    where
      by : (p l o : Bool) → (p && o) ≡ false → o ≡ true → ((not p && l) || (not l && o)) ≡ true
      by true l o e k = absurd (false≢true (sym e ∙ k))
      by false true o e k = refl
      by false false o e k = k

-- ---- one test after the other

module _ (info : RerunInfo) (old new : Planned) (test : OwnedTestInstanceId) where
  -- a test is planned where it comes first: it was seen or wasn't, and has passed or hasn't
  pub placed : (b p : Bool) → is_seen old.seen test ≡ b → has_passing info.test_suites test ≡ p
      → new.run.items ≡ old.run.items ++ (if b || p then [] else test ∷ [])
      → new.skip.items ≡ old.skip.items ++ (if not b && p then test ∷ [] else [])
      → ((t : OwnedTestInstanceId) → is_seen new.seen t ≡ (test_eq test t || is_seen old.seen t))
      → (tests : List OwnedTestInstanceId) → HasPlanned info tests old
      → HasPlanned info (tests ++ test ∷ []) new
  placed b p there passes run skip seen tests h =
      let next : firsts (tests ++ test ∷ []) ≡ firsts tests ++ (if b then [] else test ∷ []) =
      firsts-push tests test
      ∙ ap (λ c. firsts tests ++ (if c then [] else test ∷ [])) (sym (h.seen test) ∙ there) in
      record {
        run =
            run ∙ ap (λ ys. ys ++ (if b || p then [] else test ∷ [])) h.run
            ∙ ap (λ ys. filter runs (firsts tests) ++ ys) (sym (to_run b p passes))
            ∙ sym (filter-append runs (firsts tests) (if b then [] else test ∷ []))
            ∙ ap (filter runs) (sym next);
        skip =
            skip ∙ ap (λ ys. ys ++ (if not b && p then test ∷ [] else [])) h.skip
            ∙ ap (λ ys. filter skips (firsts tests) ++ ys) (sym (to_skip b p passes))
            ∙ sym (filter-append skips (firsts tests) (if b then [] else test ∷ []))
            ∙ ap (filter skips) (sym next);
        seen =
            λ t. seen t ∙ ap (λ c. test_eq test t || c) (h.seen t)
            ∙ or_comm (test_eq test t) (is_in tests t)
            ∙ ap (λ c. is_in tests t || c) (or_comm false (test_eq test t))
            ∙ sym (list_any-append (λ s. test_eq s t) tests (test ∷ []));
      }
    where
      skips : OwnedTestInstanceId → Bool
      skips = has_passing info.test_suites

      runs : OwnedTestInstanceId → Bool
      runs t = not (has_passing info.test_suites t)

      to_run : (b p : Bool) → has_passing info.test_suites test ≡ p
          → filter runs (if b then [] else test ∷ []) ≡ (if b || p then [] else test ∷ [])
      to_run true p e = refl
      to_run false true e = ap (λ c. cond (not c) (test ∷ []) []) e
      to_run false false e = ap (λ c. cond (not c) (test ∷ []) []) e

      to_skip : (b p : Bool) → has_passing info.test_suites test ≡ p
          → filter skips (if b then [] else test ∷ []) ≡ (if not b && p then test ∷ [] else [])
      to_skip true p e = refl
      to_skip false true e = ap (λ c. cond c (test ∷ []) []) e
      to_skip false false e = ap (λ c. cond c (test ∷ []) []) e

-- the outstanding tests that weren't seen are those that the list lacks
pub gone_is : (list : TestListSummary) (seen : BTreeSet OwnedTestInstanceId)
    (tests : List OwnedTestInstanceId)
    → ((t : OwnedTestInstanceId) → is_seen seen t ≡ is_in (tests_in list.suites) t)
    → filter (λ t. not (is_seen seen t)) tests ≡ filter (λ t. not (is_listed list t)) tests
gone_is list seen tests h =
    filter_agree (λ t. not (is_seen seen t)) (λ t. not (is_listed list t))
    (λ t. ap not (h t ∙ in_list list t)) tests

-- a test more, before those that are left
pub unseen_more : (f : OwnedTestInstanceId → Bool) (gone : List OwnedTestInstanceId)
    (test : OwnedTestInstanceId) (rest : List OwnedTestInstanceId)
    → (gone ++ (if f test then [] else test ∷ [])) ++ filter (λ t. not (f t)) rest
    ≡ gone ++ filter (λ t. not (f t)) (test ∷ rest)
unseen_more f gone test rest =
    append_assoc gone (if f test then [] else test ∷ []) (filter (λ t. not (f t)) rest)
    ∙ ap (λ ys. gone ++ ys) (by (f test))
  where
    by : (b : Bool)
        → (if b then [] else test ∷ []) ++ filter (λ t. not (f t)) rest
        ≡ cond (not b) (test ∷ filter (λ t. not (f t)) rest) (filter (λ t. not (f t)) rest)
    by true = refl
    by false = refl

pub unseen_suite : (f : OwnedTestInstanceId → Bool) (gone tests rest : List OwnedTestInstanceId)
    → (gone ++ filter f tests) ++ filter f rest ≡ gone ++ filter f (tests ++ rest)
unseen_suite f gone tests rest =
    append_assoc gone (filter f tests) (filter f rest)
    ∙ ap (λ ys. gone ++ ys) (sym (filter-append f tests rest))

-- a test is added that isn't there
pub none_added : {A : Type 0} (xs : List A) (x : A) (b : Bool) → b ≡ true
    → xs ≡ xs ++ (if b then [] else x ∷ [])
none_added xs x b h = sym (append-nil xs) ∙ ap (λ c. xs ++ (if c then [] else x ∷ [])) (sym h)

pub one_added : {A : Type 0} (xs : List A) (x : A) (b : Bool) → b ≡ false
    → xs ++ x ∷ [] ≡ xs ++ (if b then [] else x ∷ [])
one_added xs x b h = ap (λ c. xs ++ (if c then [] else x ∷ [])) (sym h)

-- ---- the order of the set

pub seen_by : (s : BTreeSet OwnedTestInstanceId) (t : OwnedTestInstanceId)
    → contains_by (tests.cmp-value.it t) s ≡ is_seen s t
seen_by s t = ap (λ (f : OwnedTestInstanceId → Bool). list_any f s.keys) (λ i u. same_test t u i)

cond_or : (a b : Bool) → cond a true b ≡ (a || b)
cond_or true b = refl
cond_or false b = refl

pub sees : (s n : BTreeSet OwnedTestInstanceId) (k : OwnedTestInstanceId)
    → ((q : OwnedTestInstanceId) → contains_by (tests.cmp-value.it q) n
    ≡ cond (is_at (tests.cmp-value.it k) q) true (contains_by (tests.cmp-value.it q) s))
    → (t : OwnedTestInstanceId) → is_seen n t ≡ (test_eq k t || is_seen s t)
sees s n k h t =
    sym (seen_by n t) ∙ h t
    ∙ ap (λ b. cond b true (contains_by (tests.cmp-value.it t) s)) (same_test k t)
    ∙ ap (cond (test_eq k t) true) (seen_by s t)
    ∙ cond_or (test_eq k t) (is_seen s t)

-- a test is new to a set that hadn't it
pub not_new : (new had : Bool) → new ≡ not had → new ≡ false → had ≡ true
not_new new true is h = refl
not_new new false is h = absurd (false≢true (sym h ∙ is))

pub is_new : (new had : Bool) → new ≡ not had → new ≡ true → had ≡ false
is_new new false is h = refl
is_new new true is h = absurd (false≢true (sym is ∙ h))

-- ---- of a plan, where one was made

-- what follows from two facts of an answer
both : {A E : Type 0} (r : Result A E) (P Q R : A → Type 0) → ((x : A) → P x → Q x → R x) → IfOk r P
    → IfOk r Q → IfOk r R
both (Ok x) P Q R f p q = f x p q
both (Err e) P Q R f p q = tt

module _ {E : Type 0} (info : RerunInfo) (list : TestListSummary) (made : Result RerunPlan E) where
  pub parted_in : IfOk made (λ plan. plan.run ≡ run_of info list)
      → IfOk made (λ plan. plan.skip ≡ skip_of info list)
      → IfOk made (λ plan. (t : OwnedTestInstanceId)
      → (is_in plan.run t || is_in plan.skip t) ≡ is_listed list t)
  parted_in run skip =
      both made _ _ _ (λ plan r s t. ap (λ ts. is_in ts t || is_in plan.skip t) r
      ∙ ap (λ ts. is_in (run_of info list) t || is_in ts t) s ∙ parted info list t)
      run skip

  pub never_both_in : IfOk made (λ plan. plan.run ≡ run_of info list)
      → IfOk made (λ plan. plan.skip ≡ skip_of info list)
      → IfOk made
      (λ plan. (t : OwnedTestInstanceId) → (is_in plan.run t && is_in plan.skip t) ≡ false)
  never_both_in run skip =
      both made _ _ _ (λ plan r s t. ap (λ ts. is_in ts t && is_in plan.skip t) r
      ∙ ap (λ ts. is_in (run_of info list) t && is_in ts t) s ∙ never_both info list t)
      run skip

  pub kept_in : IfOk made (λ plan. plan.run ≡ run_of info list)
      → IfOk made (λ plan. plan.gone ≡ gone_of info list)
      → IfOk made (λ plan. AreApart info.test_suites → (t : OwnedTestInstanceId)
      → has_outstanding info.test_suites t ≡ true → (is_in plan.run t || is_in plan.gone t) ≡ true)
  kept_in run gone =
      both made _ _ _ (λ plan r g apart t h. ap (λ ts. is_in ts t || is_in plan.gone t) r
      ∙ ap (λ ts. is_in (run_of info list) t || is_in ts t) g ∙ kept info list apart t h)
      run gone
