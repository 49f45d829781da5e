-- What a history says of its tests, with one event more.
use Rattle.std.proofs.Common.{◌≡◌, ◌<◌, ℕ, zero, suc, Bool, true, false, ◌&&◌, not, List, [], ◌∷◌}
use Rattle.std.proofs.Common.{◌++◌, length, map, filter, reverse, refl, ap, sym, ◌∙◌}
use Rattle.std.proofs.Common.{Option, Some, None, is_some, option_to_list, slice_get}
use Rattle.std.proofs.Common.{if◌then◌else◌}
use Rattle.std.proofs.lemmas.List.Elements.{filter_agree}
use Rattle.std.proofs.lemmas.List.{map-append}
use Rattle.std.specs.Option.{option_map_or}
use Rattle.std.specs.Prelude.{option_and_then}
use Rattle.rec_events.proofs.TestOrder.{test_eq-self, test_eq-true}
use Rattle.rec_events.specs.declared.instances.OwnedTestInstanceId.{OwnedTestInstanceId}
use Rattle.rec_events.specs.Tests.{test_eq}
use Rattle.rec_rerun.specs.Plans.{firsts}
use Rattle.rec_view.proofs.Attempts.{append-none, attempts-cut, attempts-new, attempts-over}
use Rattle.rec_view.proofs.Attempts.{attempts-uncut, differ, uncut_settles}
use Rattle.rec_view.proofs.Open.{Within, new_verdict, one_open, verdict-push, within}
use Rattle.rec_view.proofs.Tests.{tests-push}
use Rattle.rec_view.specs.Acts.Act.{Starts, Retries, Fails, Ends, Skips, RunEnds, Silent}
use Rattle.rec_view.specs.Acts.{Act}
use Rattle.rec_view.specs.Attempts.{attempts, cuts}
use Rattle.rec_view.specs.declared.test_views.Attempt.{Attempt}
use Rattle.rec_view.specs.declared.verdicts.Verdict.TheVariants.{Unfinished}
use Rattle.rec_view.specs.declared.verdicts.Verdict.{Verdict}
use Rattle.rec_view.specs.Open.{is_open, open_of}
use Rattle.rec_view.specs.Rows.{Row, row, rows_of}
use Rattle.rec_view.specs.Tests.{Place, by_fate, fate, has_stood, is_running, is_start, opened}
use Rattle.rec_view.specs.Tests.{place, settles, tests, verdict, verdict_by}
use Rattle.rec_view.specs.Walked.{OpenAt, begun_at, changed, close_last, cut_test, fresh, next_rows}
use Rattle.rec_view.specs.Walked.{opens_by, touch_at, touched, unless_some}

and_left : (a b : Bool) → (a && b) ≡ true → a ≡ true
and_left true b h = refl
and_left false b h = differ (sym h)

and_right : (a b : Bool) → (a && b) ≡ true → b ≡ true
and_right true b h = h
and_right false b h = differ (sym h)

abbrev of_place : Place → Verdict → List Attempt → Row
of_place p v xs = record { place = p; verdict = v; attempts = xs }

pub row_made : (p : Place) (v w : Verdict) (xs ys : List Attempt) → v ≡ w → xs ≡ ys
    → of_place p v xs ≡ of_place p w ys
row_made p v w xs ys e f = λ i. record { place = p; verdict = e i; attempts = f i }

-- what is open is unfinished
open_unfinished : (acts : List Act) (p : Place) → is_open acts p ≡ true
    → verdict acts p ≡ Unfinished
open_unfinished acts p h = by (slice_get acts p.at) (fate acts p) h
  where
    by : (o f : Option Act) → (option_map_or is_start o false && not (is_some f)) ≡ true
        → verdict_by o f ≡ Unfinished
    by None f h = refl
    by (Some (Starts t)) None h = refl
    by (Some (Starts t)) (Some x) h = differ (sym h)
    by (Some (Retries t)) None h = refl
    by (Some (Retries t)) (Some x) h = differ (sym h)
    by (Some (Ends t v)) f h = differ (sym h)
    by (Some (Fails t)) f h = refl
    by (Some (Skips t)) f h = differ (sym h)
    by (Some (RunEnds ns)) f h = differ (sym h)
    by (Some Silent) f h = refl

-- ---- the row of an old test

module _ (acts : List Act) (act : Act) where
  abbrev later : Place → Row
  later p = row (acts ++ act ∷ []) p

  abbrev n : ℕ
  n = length acts

  same_verdict : (p : Place) → p.at < n → (is_open acts p && settles p.test act) ≡ false
      → verdict (acts ++ act ∷ []) p ≡ verdict acts p
  same_verdict p h e =
      verdict-push acts act p h ∙ ap (λ b. if b then by_fate (Some act) else verdict acts p) e

  -- the event says nothing of its attempts
  uncut_row : (p : Place) → p.at < n → cuts p.test act ≡ false → later p ≡ row acts p
  uncut_row p h e =
      row_made p _ _ _ _
      (same_verdict p h (ap (λ b. is_open acts p && b) (uncut_settles p.test act e)
      ∙ and_none (is_open acts p)))
      (attempts-uncut acts act p h e)
    where
      and_none : (b : Bool) → (b && false) ≡ false
      and_none true = refl
      and_none false = refl

  -- the test is over
  over_row : (p : Place) → p.at < n → is_open acts p ≡ false → later p ≡ row acts p
  over_row p h e =
      row_made p _ _ _ _ (same_verdict p h (ap (λ b. b && settles p.test act) e))
      (attempts-over acts act p h e)

  -- the event says nothing of the attempts of any test
  uncut_rows : ((p : Place) → cuts p.test act ≡ false) → (ps : List Place) → Within n ps
      → map later ps ≡ map (row acts) ps
  uncut_rows quiet [] h = refl
  uncut_rows quiet (p ∷ ps) h =
      ap (λ r. r ∷ map later ps) (uncut_row p h.0 (quiet p))
      ∙ ap (λ rs. row acts p ∷ rs) (uncut_rows quiet ps h.1)

  new_row : (t : OwnedTestInstanceId) → later (place n t) ≡ fresh act n t
  new_row t = row_made (place n t) _ _ _ _ (new_verdict acts act t) (attempts-new acts act t)

  new_rows : (ts : List OwnedTestInstanceId) → map later (map (place n) ts) ≡ map (fresh act n) ts
  new_rows [] = refl
  new_rows (t ∷ ts) =
      ap (λ r. r ∷ map later (map (place n) ts)) (new_row t)
      ∙ ap (λ rs. fresh act n t ∷ rs) (new_rows ts)

  rows-push : rows_of (acts ++ act ∷ [])
      ≡ map later (tests acts) ++ map (fresh act n) (opened (reverse acts) act)
  rows-push =
      ap (map later) (tests-push acts act)
      ∙ map-append later (tests acts) (map (place n) (opened (reverse acts) act))
      ∙ ap (λ rs. map later (tests acts) ++ rs) (new_rows (opened (reverse acts) act))

  -- ---- the event cuts the attempts of a name

  module _ (s : OwnedTestInstanceId)
      (of_name : (t : OwnedTestInstanceId) → cuts t act ≡ test_eq s t)
      (yes : (p : Place) → p.at < n → is_open acts p ≡ true → test_eq s p.test ≡ true
      → later p ≡ changed act n (row acts p)) where
    abbrev picked : Place → Bool
    picked p = test_eq p.test s && is_open acts p

    picked_row : (p : Place) → p.at < n → picked p ≡ true → later p ≡ changed act n (row acts p)
    picked_row p h e =
        let same : p.test ≡ s =
        test_eq-true p.test s (and_left (test_eq p.test s) (is_open acts p) e) in
        yes p h (and_right (test_eq p.test s) (is_open acts p) e)
        (ap (test_eq s) same ∙ test_eq-self s)

    other_row : (p : Place) → p.at < n → picked p ≡ false → later p ≡ row acts p
    other_row p h e = by (is_open acts p) (test_eq s p.test) refl refl
      where
        by : (o b : Bool) → is_open acts p ≡ o → test_eq s p.test ≡ b → later p ≡ row acts p
        by false b k l = over_row p h k
        by true false k l = uncut_row p h (of_name p.test ∙ l)
        by true true k l =
            differ (sym (ap (λ x. test_eq x s && is_open acts p) (sym (test_eq-true s p.test l))
            ∙ ap (λ x. x && is_open acts p) (test_eq-self s) ∙ k) ∙ e)

    none_picked : (ps : List Place) → Within n ps → filter picked ps ≡ []
        → map later ps ≡ map (row acts) ps
    none_picked [] h k = refl
    none_picked (p ∷ ps) h k = by (picked p) refl k (none_picked ps h.1)
      where
        by : (b : Bool) → picked p ≡ b → (if b then p ∷ filter picked ps else filter picked ps) ≡ []
            → (filter picked ps ≡ [] → map later ps ≡ map (row acts) ps)
            → map later (p ∷ ps) ≡ map (row acts) (p ∷ ps)
        by true e k more = cc
        by false e k more =
            ap (λ r. r ∷ map later ps) (other_row p h.0 e)
            ∙ ap (λ rs. row acts p ∷ rs) (more k)

    some_picked : (ps : List Place) (i : ℕ) (p : Place) → slice_get ps i ≡ Some p
        → picked p ≡ true → filter picked ps ≡ [] → ⊥
    some_picked [] i p is e k = cc
    some_picked (q ∷ ps) zero p is e k = by (picked q) refl k
      where
        by : (b : Bool) → picked q ≡ b → (if b then q ∷ filter picked ps else filter picked ps) ≡ []
            → ⊥
        by true f k = cc
        by false f k = differ (sym e ∙ ap (λ o. option_map_or picked o true) (sym is) ∙ f)
    some_picked (q ∷ ps) (suc i) p is e k = by (picked q) k (some_picked ps i p is e)
      where
        by : (b : Bool) → (if b then q ∷ filter picked ps else filter picked ps) ≡ []
            → (filter picked ps ≡ [] → ⊥) → ⊥
        by true k more = cc
        by false k more = more k

    one_picked : (ps : List Place) (i : ℕ) (p x : Place) → Within n ps → slice_get ps i ≡ Some p
        → picked p ≡ true → filter picked ps ≡ x ∷ []
        → map later ps ≡ touch_at i (changed act n) (map (row acts) ps)
    one_picked [] i p x h is e k = cc
    one_picked (q ∷ ps) zero p x h is e k = by (picked q) refl k
      where
        by : (b : Bool) → picked q ≡ b
            → (if b then q ∷ filter picked ps else filter picked ps) ≡ x ∷ []
            → map later (q ∷ ps) ≡ changed act n (row acts q) ∷ map (row acts) ps
        by true f k =
            ap (λ r. r ∷ map later ps) (picked_row q h.0 f)
            ∙ ap (λ rs. changed act n (row acts q) ∷ rs) (none_picked ps h.1 cc)
        by false f k = differ (sym e ∙ ap (λ o. option_map_or picked o true) (sym is) ∙ f)
    one_picked (q ∷ ps) (suc i) p x h is e k =
        by (picked q) refl k (one_picked ps i p x h.1 is e)
      where
        by : (b : Bool) → picked q ≡ b
            → (if b then q ∷ filter picked ps else filter picked ps) ≡ x ∷ []
            → (filter picked ps ≡ x ∷ []
            → map later ps ≡ touch_at i (changed act n) (map (row acts) ps))
            → map later (q ∷ ps)
            ≡ row acts q ∷ touch_at i (changed act n) (map (row acts) ps)
        by true f k more = absurd (some_picked ps i p is e cc)
        by false f k more =
            ap (λ r. r ∷ map later ps) (other_row q h.0 f)
            ∙ ap (λ rs. row acts q ∷ rs) (more k)

    none_open : (o : Option Place) → open_of s acts ≡ option_to_list o → false ≡ is_some o
        → open_of s acts ≡ []
    none_open None h k = h
    none_open (Some x) h k = differ (sym k)

    some_open : (o : Option Place) → open_of s acts ≡ option_to_list o → true ≡ is_some o
        → (x : Place) × (open_of s acts ≡ x ∷ [])
    some_open None h k = differ k
    some_open (Some x) h k = (x, h)

    touched_rows : (o : Option ℕ) → OpenAt acts s o
        → map later (tests acts) ≡ touched o (changed act n) (rows_of acts)
    touched_rows None h =
        let one = one_open acts s in
        none_picked (tests acts) (within acts)
        (none_open one.place one.all (sym h ∙ one.runs))
    touched_rows (Some i) (h, (p, is, named, on)) =
        let one = one_open acts s in
        let x = some_open one.place one.all (sym h ∙ one.runs) in
        let yes_p : picked p ≡ true =
        ap (λ u. test_eq u s && is_open acts p) named
        ∙ ap (λ b. b && is_open acts p) (test_eq-self s) ∙ on in
        one_picked (tests acts) i p x.0 (within acts) is yes_p x.1

-- ---- the row of a test that is open, and whose attempt is cut

module _ (acts : List Act) (s : OwnedTestInstanceId) (p : Place) (h : p.at < length acts)
    (is_on : is_open acts p ≡ true) (same : test_eq s p.test ≡ true) where
  abbrev now : Act → Verdict
  now act = if is_open acts p && settles p.test act then by_fate (Some act) else verdict acts p

  started_row : row (acts ++ Starts s ∷ []) p ≡ changed (Starts s) (length acts) (row acts p)
  started_row =
      row_made p _ _ _ _
      (verdict-push acts (Starts s) p h
      ∙ by (is_open acts p && test_eq s p.test)
      ∙ refl)
      (attempts-cut acts (Starts s) p h same is_on
      ∙ append-none (close_last (length acts) (attempts acts p)))
    where
      by : (b : Bool) → (if b then Unfinished else verdict acts p) ≡ verdict acts p
      by true = sym (open_unfinished acts p is_on)
      by false = refl

  and_none : (b : Bool) → (b && false) ≡ false
  and_none true = refl
  and_none false = refl

  retried_row : row (acts ++ Retries s ∷ []) p ≡ changed (Retries s) (length acts) (row acts p)
  retried_row =
      row_made p _ _ _ _ (same_verdict acts (Retries s) p h (and_none (is_open acts p)))
      (attempts-cut acts (Retries s) p h same is_on
      ∙ ap (λ b. close_last (length acts) (attempts acts p)
      ++ (if b then begun_at (length acts) ∷ [] else [])) same)

  failed_row : row (acts ++ Fails s ∷ []) p ≡ changed (Fails s) (length acts) (row acts p)
  failed_row =
      row_made p _ _ _ _ (same_verdict acts (Fails s) p h (and_none (is_open acts p)))
      (attempts-cut acts (Fails s) p h same is_on
      ∙ append-none (close_last (length acts) (attempts acts p)))

  ended_row : (v : Verdict)
      → row (acts ++ Ends s v ∷ []) p ≡ changed (Ends s v) (length acts) (row acts p)
  ended_row v =
      row_made p _ _ _ _
      (verdict-push acts (Ends s v) p h
      ∙ ap (λ b. if b && test_eq s p.test then v else verdict acts p) is_on
      ∙ ap (λ b. if b then v else verdict acts p) same)
      (attempts-cut acts (Ends s v) p h same is_on
      ∙ append-none (close_last (length acts) (attempts acts p)))

-- ---- one event more

module _ (acts : List Act) (run : OwnedTestInstanceId → Option ℕ)
    (opens : (t : OwnedTestInstanceId) → OpenAt acts t (run t))
    (told : OwnedTestInstanceId → Bool)
    (stood : (t : OwnedTestInstanceId) → told t ≡ has_stood t (reverse acts)) where
  old_rows : (act : Act)
      → map (row (acts ++ act ∷ [])) (tests acts)
      ≡ touched (option_and_then run (cut_test act)) (changed act (length acts)) (rows_of acts)
  old_rows (Starts s) =
      touched_rows acts (Starts s) s (λ t. refl) (λ p h o e. started_row acts s p h o e) (run s)
      (opens s)
  old_rows (Retries s) =
      touched_rows acts (Retries s) s (λ t. refl) (λ p h o e. retried_row acts s p h o e) (run s)
      (opens s)
  old_rows (Fails s) =
      touched_rows acts (Fails s) s (λ t. refl) (λ p h o e. failed_row acts s p h o e) (run s)
      (opens s)
  old_rows (Ends s v) =
      touched_rows acts (Ends s v) s (λ t. refl) (λ p h o e. ended_row acts s p h o e v) (run s)
      (opens s)
  old_rows (Skips s) = uncut_rows acts (Skips s) (λ p. refl) (tests acts) (within acts)
  old_rows (RunEnds names) =
      uncut_rows acts (RunEnds names) (λ p. refl) (tests acts) (within acts)
  old_rows Silent = uncut_rows acts Silent (λ p. refl) (tests acts) (within acts)

  unless_running : (s : OwnedTestInstanceId) (o : Option ℕ) → OpenAt acts s o
      → (if is_running s (reverse acts) then [] else s ∷ []) ≡ unless_some o s
  unless_running s None h = ap (λ b. if b then [] else s ∷ []) h
  unless_running s (Some i) h = ap (λ b. if b then [] else s ∷ []) h.0

  opened_is : (act : Act) → opened (reverse acts) act ≡ opens_by act run told
  opened_is (Starts s) = refl
  opened_is (Retries s) = unless_running s (run s) (opens s)
  opened_is (Fails s) = refl
  opened_is (Ends s v) = unless_running s (run s) (opens s)
  opened_is (Skips s) = refl
  opened_is (RunEnds names) =
      filter_agree (λ t. not (has_stood t (reverse acts))) (λ t. not (told t))
      (λ t. ap not (sym (stood t))) (firsts names)
  opened_is Silent = refl

  pub rows_more : (act : Act)
      → rows_of (acts ++ act ∷ []) ≡ next_rows act run told (length acts) (rows_of acts)
  rows_more act =
      rows-push acts act
      ∙ ap (λ rs. rs ++ map (fresh act (length acts)) (opened (reverse acts) act)) (old_rows act)
      ∙ ap (λ ts. touched (option_and_then run (cut_test act)) (changed act (length acts))
      (rows_of acts) ++ map (fresh act (length acts)) ts) (opened_is act)
