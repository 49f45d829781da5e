-- What a walk keeps, with one event more.
use Rattle.std.proofs.Common.{◌≡◌, ◌<◌, ℕ, zero, suc, ◌+◌, Bool, true, false, ◌&&◌, ◌||◌, cond, not}
use Rattle.std.proofs.Common.{List, [], ◌∷◌, ◌++◌, length, map, filter, reverse, get_or, set, take}
use Rattle.std.proofs.Common.{take-suc, add-one, refl, ap, sym, ◌∙◌, arith, Option, Some, None}
use Rattle.std.proofs.Common.{slice_get, subst, if◌then◌else◌, Result, Ok, Err, OnOk, IfSome}
use Rattle.std.proofs.lemmas.List.Elements.{filter-append}
use Rattle.std.proofs.lemmas.List.Folds.{list_any-append}
use Rattle.std.proofs.lemmas.List.{append_assoc, length-append, length-map, map-append}
use Rattle.std.proofs.lemmas.List.{reverse-append}
use Rattle.std.specs.BTreeMap.{is_at}
use Rattle.std.specs.BTreeSet.{BTreeSet, contains_by}
use Rattle.std.specs.List.{find, list_any}
use Rattle.std.specs.Option.{option_map_or, option_or}
use Rattle.rec_events.proofs.TestOrder.{same_test, test_eq-true}
use Rattle.rec_events.specs.contracts.instances.OwnedTestInstanceIdOrd.TheImpl as order
use Rattle.rec_events.specs.declared.instances.OwnedTestInstanceId.{OwnedTestInstanceId}
use Rattle.rec_events.specs.Tests.{test_eq}
use Rattle.rec_rerun.specs.Planned.{is_seen}
use Rattle.rec_rerun.specs.Plans.{firsts}
use Rattle.rec_spans.specs.Tied.{slot_of}
use Rattle.rec_view.proofs.Attempts.{from_to}
use Rattle.rec_view.proofs.Open.{Within, new-open, open-push, within}
use Rattle.rec_view.proofs.Rows.{rows_more}
use Rattle.rec_view.proofs.Tests.{tests-push}
use Rattle.rec_view.specs.Acts.Act.{Starts, Retries, Fails, Ends, Skips, RunEnds, Silent}
use Rattle.rec_view.specs.Acts.{Act}
use Rattle.rec_view.specs.declared.test_views.Attempt.{Attempt}
use Rattle.rec_view.specs.declared.test_views.TestView.{TestView}
use Rattle.rec_view.specs.declared.verdicts.Verdict.{Verdict}
use Rattle.rec_view.specs.declared.walk.Walk.{Walk}
use Rattle.rec_view.specs.Open.{is_open}
use Rattle.rec_view.specs.Rows.{Row, row, row_of, rows, rows_of}
use Rattle.rec_view.specs.Tests.{Place, has_stood, is_running, is_start, opened, place, settles}
use Rattle.rec_view.specs.Tests.{tells, tests, turns, verdict, verdicts}
use Rattle.rec_view.specs.Walked.{HasWalked, Names, OpenAt, Pushes, Takes, Tells, Touches}
use Rattle.rec_view.specs.Walked.{close_last, closed, fresh, is_run_end}
use Rattle.rec_view.specs.Walked.{next_rows, next_running, or_else, touch_at, touched}

differ : {X : Type 0} → true ≡ false → X
differ h = absurd (grind (arith, h))

-- the row at a place becomes that of what is put there
pub set_rows : (xs : List TestView) (i : ℕ) (x y : TestView) (f : Row → Row) → x ≡ get_or xs i x
    → row_of y ≡ f (row_of x) → i < length xs → rows (set xs i y) ≡ touch_at i f (rows xs)
set_rows [] i x y f is e h = absurd (omega (arith, h))
set_rows (z ∷ xs) zero x y f is e h = ap (λ r. r ∷ rows xs) (e ∙ ap (λ w. f (row_of w)) is)
set_rows (z ∷ xs) (suc i) x y f is e h =
    ap (λ rs. row_of z ∷ rs) (set_rows xs i x y f is e (omega (arith, h)))

-- the last attempt of a list has an end
pub close_set : (n : ℕ) (xs : List Attempt) (k : ℕ) (x : Attempt) (end : Option ℕ)
    → suc k ≡ length xs → x ≡ get_or xs k x → end ≡ option_or x.to (Some n)
    → set xs k (from_to x.from end) ≡ close_last n xs
close_set n [] k x end h is e = absurd (omega (arith, h))
close_set n (a ∷ []) zero x end h is e =
    ap (λ o. from_to x.from o ∷ []) e
    ∙ ap (λ (y : Attempt). from_to y.from (option_or y.to (Some n)) ∷ []) is
close_set n (a ∷ []) (suc k) x end h is e = absurd (omega (arith, h))
close_set n (a ∷ b ∷ xs) zero x end h is e = absurd (omega (arith, h))
close_set n (a ∷ b ∷ xs) (suc k) x end h is e =
    ap (λ ys. a ∷ ys) (close_set n (b ∷ xs) k x end (omega (arith, h)) is e)

-- ---- what runs

pub keep_running : (run : OwnedTestInstanceId → Option ℕ) (t : OwnedTestInstanceId) (i len : ℕ)
    → run t ≡ Some i → (s : OwnedTestInstanceId) → run s ≡ next_running (Retries t) run len s
keep_running run t i len e s = by (test_eq t s) refl
  where
    by : (b : Bool) → test_eq t s ≡ b → run s ≡ (if b then or_else (run t) (Some len) else run s)
    by true k = ap run (sym (test_eq-true t s k)) ∙ e ∙ sym (ap (λ o. or_else o (Some len)) e)
    by false k = refl

pub open_running : (run : OwnedTestInstanceId → Option ℕ) (t : OwnedTestInstanceId) (len : ℕ)
    → run t ≡ None → (s : OwnedTestInstanceId)
    → (if test_eq t s then Some len else run s) ≡ next_running (Retries t) run len s
open_running run t len e s =
    ap (λ o. if test_eq t s then o else run s) (sym (ap (λ o. or_else o (Some len)) e))

pub none_running : (run : OwnedTestInstanceId → Option ℕ) (t : OwnedTestInstanceId) (v : Verdict)
    (len : ℕ) → run t ≡ None → (s : OwnedTestInstanceId) → run s ≡ next_running (Ends t v) run len s
none_running run t v len e s = by (test_eq t s) refl
  where
    by : (b : Bool) → test_eq t s ≡ b → run s ≡ (if b then None else run s)
    by true k = ap run (sym (test_eq-true t s k)) ∙ e
    by false k = refl

pub on_ok : {X E A B : Type 0} (r : Result X E) → (A → B) → OnOk r A → OnOk r B
on_ok (Ok x) f h = f h
on_ok (Err e) f h = tt

-- ---- one event more

get_more : {X : Type 0} (xs ys : List X) (i : ℕ) (x : X) → slice_get xs i ≡ Some x
    → slice_get (xs ++ ys) i ≡ Some x
get_more [] ys i x h = cc
get_more (y ∷ xs) ys zero x h = h
get_more (y ∷ xs) ys (suc i) x h = get_more xs ys i x h

get_end : {X : Type 0} (xs : List X) (x : X) → slice_get (xs ++ x ∷ []) (length xs) ≡ Some x
get_end [] x = refl
get_end (y ∷ xs) x = get_end xs x

within_at : (n : ℕ) (ps : List Place) (i : ℕ) (p : Place) → Within n ps → slice_get ps i ≡ Some p
    → p.at < n
within_at n [] i p h is = cc
within_at n (q ∷ ps) zero p h is = subst (λ x. x.at < n) some_is h.0
  where
    some_is : q ≡ p
    some_is = cc
within_at n (q ∷ ps) (suc i) p h is = within_at n ps i p h.1 is

module _ (acts : List Act) where
  ran : (act : Act) (t : OwnedTestInstanceId)
      → is_running t (reverse (acts ++ act ∷ [])) ≡ is_running t (act ∷ reverse acts)
  ran act t = ap (is_running t) (reverse-append acts (act ∷ []))

  and_true : (b : Bool) → b ≡ true → (b && true) ≡ true
  and_true true h = refl
  and_true false h = h

  now_running : (act : Act) (t : OwnedTestInstanceId) (b : Bool) → turns t act ≡ b
      → is_running t (reverse (acts ++ act ∷ []))
      ≡ option_map_or is_start (if b then Some act else find (turns t) (reverse acts)) false
  now_running act t b e =
      ran act t ∙ ap (λ b. option_map_or is_start
      (if b then Some act else find (turns t) (reverse acts)) false) e

  -- a test that is open stays so at its place unless the event settles it
  still_placed : (act : Act) (t : OwnedTestInstanceId) (i : ℕ) → settles t act ≡ false
      → is_running t (reverse (acts ++ act ∷ [])) ≡ true → OpenAt acts t (Some i)
      → OpenAt (acts ++ act ∷ []) t (Some i)
  still_placed act t i f runs (h, (p, is, named, on)) = (
    runs,
    (
      p,
      ap (λ ps. slice_get ps i) (tests-push acts act)
          ∙ get_more (tests acts) (map (place (length acts)) (opened (reverse acts) act)) i p is,
      named,
      open-push acts act p (within_at (length acts) (tests acts) i p (within acts) is)
          ∙ ap (λ u. is_open acts p && not (settles u act)) named
          ∙ ap (λ b. is_open acts p && not b) f ∙ and_true (is_open acts p) on,
    ),
  )

  still_open : (act : Act) (t : OwnedTestInstanceId) (o : Option ℕ) → turns t act ≡ false
      → settles t act ≡ false → OpenAt acts t o → OpenAt (acts ++ act ∷ []) t o
  still_open act t None e f h = now_running act t false e ∙ h
  still_open act t (Some i) e f h = still_placed act t i f (now_running act t false e ∙ h.0) h

  -- a test that the event opens is open
  new_open : (act : Act) (s t : OwnedTestInstanceId) → test_eq s t ≡ true → turns t act ≡ true
      → is_start act ≡ true → opened (reverse acts) act ≡ s ∷ []
      → OpenAt (acts ++ act ∷ []) t (Some (length (tests acts)))
  new_open act s t e f g o = (
    now_running act t true f ∙ g,
    (
      place (length acts) s,
      ap (λ ps. slice_get ps (length (tests acts)))
          (tests-push acts act ∙ ap (λ ts. tests acts ++ map (place (length acts)) ts) o)
          ∙ get_end (tests acts) (place (length acts) s),
      test_eq-true s t e,
      new-open acts act s ∙ g,
    ),
  )

  module _ (run : OwnedTestInstanceId → Option ℕ)
      (opens : (t : OwnedTestInstanceId) → OpenAt acts t (run t)) where
    abbrev len : ℕ
    len = length (tests acts)

    after_retry : (s t : OwnedTestInstanceId) (o : Option ℕ) → test_eq s t ≡ true → OpenAt acts s o
        → OpenAt (acts ++ Retries s ∷ []) t (or_else o (Some len))
    after_retry s t None e h =
        new_open (Retries s) s t e e refl (ap (λ b. if b then [] else s ∷ []) h)
    after_retry s t (Some i) e h =
        still_placed (Retries s) t i refl (now_running (Retries s) t true e)
        (subst (λ u. OpenAt acts u (Some i)) (test_eq-true s t e) h)

    by_start : (s t : OwnedTestInstanceId) (b : Bool) → test_eq s t ≡ b
        → OpenAt (acts ++ Starts s ∷ []) t (if b then Some len else run t)
    by_start s t true e = new_open (Starts s) s t e e refl refl
    by_start s t false e = still_open (Starts s) t (run t) e e (opens t)

    by_retry : (s t : OwnedTestInstanceId) (b : Bool) → test_eq s t ≡ b
        → OpenAt (acts ++ Retries s ∷ []) t (if b then or_else (run s) (Some len) else run t)
    by_retry s t true e = after_retry s t (run s) e (opens s)
    by_retry s t false e = still_open (Retries s) t (run t) e refl (opens t)

    by_end : (s : OwnedTestInstanceId) (v : Verdict) (t : OwnedTestInstanceId) (b : Bool)
        → test_eq s t ≡ b → OpenAt (acts ++ Ends s v ∷ []) t (if b then None else run t)
    by_end s v t true e = now_running (Ends s v) t true e
    by_end s v t false e = still_open (Ends s v) t (run t) e e (opens t)

    pub opens_more : (act : Act) (t : OwnedTestInstanceId)
        → OpenAt (acts ++ act ∷ []) t (next_running act run len t)
    opens_more (Starts s) t = by_start s t (test_eq s t) refl
    opens_more (Retries s) t = by_retry s t (test_eq s t) refl
    opens_more (Ends s v) t = by_end s v t (test_eq s t) refl
    opens_more (Skips s) t = still_open (Skips s) t (run t) refl refl (opens t)
    opens_more (Fails s) t = still_open (Fails s) t (run t) refl refl (opens t)
    opens_more (RunEnds ns) t = still_open (RunEnds ns) t (run t) refl refl (opens t)
    opens_more Silent t = still_open Silent t (run t) refl refl (opens t)

stood_more : (t : OwnedTestInstanceId) (past : List Act) (act : Act)
    → has_stood t (act ∷ past) ≡ (tells t act
    || (if is_run_end act then false else has_stood t past))
stood_more t past (Starts s) = refl
stood_more t past (Retries s) = refl
stood_more t past (Ends s v) = refl
stood_more t past (Skips s) = refl
stood_more t past (Fails s) = refl
stood_more t past (RunEnds names) = refl
stood_more t past Silent = refl

-- how many rows there are
pub rows_many : (acts : List Act) (xs : List TestView) → rows xs ≡ rows_of acts
    → length xs ≡ length (tests acts)
rows_many acts xs e =
    sym (length-map xs row_of) ∙ ap length e ∙ length-map (tests acts) (row acts)

pub touch-many : (i : ℕ) (f : Row → Row) (rs : List Row) → length (touch_at i f rs) ≡ length rs
touch-many i f [] = refl
touch-many zero f (r ∷ rs) = refl
touch-many (suc i) f (r ∷ rs) = ap suc (touch-many i f rs)

-- as many tests as before
pub same-many : (o : Option ℕ) (f : Row → Row) (xs ys : List TestView)
    → rows ys ≡ touched o f (rows xs) → length ys ≡ length xs
same-many o f xs ys e =
    sym (length-map ys row_of) ∙ ap length e ∙ by o ∙ length-map xs row_of
  where
    by : (o : Option ℕ) → length (touched o f (rows xs)) ≡ length (rows xs)
    by None = refl
    by (Some i) = touch-many i f (rows xs)

slice_below : {X : Type 0} (xs : List X) (i : ℕ) (x : X) → slice_get xs i ≡ Some x → i < length xs
slice_below [] i x is = cc
slice_below (y ∷ xs) zero x is = omega arith
slice_below (y ∷ xs) (suc i) x is = let lt = slice_below xs i x is in omega (arith, lt)

-- what runs stands among the rows
pub running_within : (acts : List Act) (w : Walk) → HasWalked acts w → (t : OwnedTestInstanceId)
    → IfSome (slot_of w.running.entries t) (λ i. i < length w.tests.items)
running_within acts w has t = by (slot_of w.running.entries t) (has.running t)
  where
    by : (o : Option ℕ) → OpenAt acts t o → IfSome o (λ i. i < length w.tests.items)
    by None h = tt
    by (Some i) (h, (p, is, named, on)) =
        (let lt = slice_below (tests acts) i p is in
        let e = rows_many acts w.tests.items has.rows in omega (arith, lt, e))

pub walked_more : (acts : List Act) (act : Act) (old new noted last : Walk) → HasWalked acts old
    → Takes act old new → Tells act new noted
    → last.tests ≡ noted.tests → last.running ≡ noted.running → last.told ≡ noted.told
    → last.number ≡ noted.number + 1 → HasWalked (acts ++ act ∷ []) last
walked_more acts act old new noted last has takes notes ts rs td k = record {
  number =
      k ∙ ap (λ m. m + 1) (notes.number ∙ takes.number ∙ has.number)
      ∙ sym (length-append acts (act ∷ []));
  rows = ap (λ xs. rows xs.items) (ts ∙ notes.tests) ∙ takes.rows
      ∙ ap (λ rs. next_rows act (slot_of old.running.entries) (is_seen old.told) old.number rs)
      has.rows
      ∙ ap (λ m. next_rows act (slot_of old.running.entries) (is_seen old.told) m (rows_of acts))
      has.number ∙ sym (rows_more acts (slot_of old.running.entries) has.running
      (is_seen old.told) has.told act);
  running =
      λ t. subst (OpenAt (acts ++ act ∷ []) t)
      (sym (ap (λ m. slot_of m.entries t) (rs ∙ notes.running) ∙ takes.running t
      ∙ ap (λ m. next_running act (slot_of old.running.entries) m t)
      (rows_many acts old.tests.items has.rows)))
      (opens_more acts (slot_of old.running.entries) has.running act t);
  told = λ t. ap (λ s. is_seen s t) td ∙ notes.told t
      ∙ ap (λ b. tells t act || b) (takes.told t
      ∙ ap (λ b. if is_run_end act then false else b) (has.told t))
      ∙ sym (stood_more t (reverse acts) act)
      ∙ ap (has_stood t) (sym (reverse-append acts (act ∷ [])));
}

-- ---- the set of those that were told

seen_by : (s : BTreeSet OwnedTestInstanceId) (t : OwnedTestInstanceId)
    → contains_by (order.cmp-value.it t) s ≡ is_seen s t
seen_by s t = ap (λ (f : OwnedTestInstanceId → Bool). list_any f s.keys) (λ i u. same_test t u i)

cond_or : (a b : Bool) → cond a true b ≡ (a || b)
cond_or true b = refl
cond_or false b = refl

pub tells_more : (s m : BTreeSet OwnedTestInstanceId) (k : OwnedTestInstanceId)
    → ((q : OwnedTestInstanceId) → contains_by (order.cmp-value.it q) m
    ≡ cond (is_at (order.cmp-value.it k) q) true (contains_by (order.cmp-value.it q) s))
    → (t : OwnedTestInstanceId) → is_seen m t ≡ (test_eq k t || is_seen s t)
tells_more s m k h t =
    sym (seen_by m t) ∙ h t ∙ ap (λ b. cond b true (contains_by (order.cmp-value.it t) s))
    (same_test k t) ∙ ap (cond (test_eq k t) true) (seen_by s t)
    ∙ cond_or (test_eq k t) (is_seen s t)

pub was_there : (s : BTreeSet OwnedTestInstanceId) (t : OwnedTestInstanceId) (new b : Bool)
    → new ≡ not (contains_by (order.cmp-value.it t) s) → new ≡ b → is_seen s t ≡ not b
was_there s t new b is e =
    sym (seen_by s t) ∙ flip (contains_by (order.cmp-value.it t) s) (sym is ∙ e)
  where
    flip : (c : Bool) → not c ≡ b → c ≡ not b
    flip true h = ap not h
    flip false h = ap not h

firsts-push : (ts : List OwnedTestInstanceId) (t : OwnedTestInstanceId)
    → firsts (ts ++ t ∷ []) ≡ firsts ts ++ (if list_any (λ s. test_eq s t) ts then [] else t ∷ [])
firsts-push [] t = refl
firsts-push (x ∷ xs) t =
    ap (λ ys. x ∷ filter (λ s. not (test_eq x s)) ys) (firsts-push xs t)
    ∙ ap (λ ys. x ∷ ys) (filter-append (λ s. not (test_eq x s)) (firsts xs)
    (if list_any (λ s. test_eq s t) xs then [] else t ∷ []))
    ∙ ap (λ ys. x ∷ (filter (λ s. not (test_eq x s)) (firsts xs) ++ ys))
    (by (test_eq x t) (list_any (λ s. test_eq s t) xs) refl)
  where
    by : (a b : Bool) → test_eq x t ≡ a
        → filter (λ s. not (test_eq x s)) (if b then [] else t ∷ [])
        ≡ (if a || b then [] else t ∷ [])
    by true true e = refl
    by false true e = refl
    by true false e = ap (λ a. cond (not a) (t ∷ []) []) e
    by false false e = ap (λ a. cond (not a) (t ∷ []) []) e

-- a name more
pub named-push : (told : OwnedTestInstanceId → Bool) (n : ℕ) (names : List OwnedTestInstanceId)
    (t : OwnedTestInstanceId) (b : Bool) → (told t || list_any (λ s. test_eq s t) names) ≡ b
    → map (fresh (RunEnds []) n) (filter (λ s. not (told s)) (firsts (names ++ t ∷ [])))
    ≡ map (fresh (RunEnds []) n) (filter (λ s. not (told s)) (firsts names))
    ++ (if b then [] else fresh (RunEnds []) n t ∷ [])
named-push told n names t b e =
    ap (λ ts. map row_at (filter keep ts)) (firsts-push names t)
    ∙ ap (map row_at) (filter-append keep (firsts names)
    (if list_any (λ s. test_eq s t) names then [] else t ∷ []))
    ∙ map-append row_at (filter keep (firsts names))
    (filter keep (if list_any (λ s. test_eq s t) names then [] else t ∷ []))
    ∙ ap (λ rs. map row_at (filter keep (firsts names)) ++ rs)
    (by (told t) (list_any (λ s. test_eq s t) names) refl
    ∙ ap (λ c. if c then [] else row_at t ∷ []) e)
  where
    row_at : OwnedTestInstanceId → Row
    row_at s = fresh (RunEnds []) n s

    keep : OwnedTestInstanceId → Bool
    keep s = not (told s)

    by : (x y : Bool) → told t ≡ x
        → map row_at (filter keep (if y then [] else t ∷ []))
        ≡ (if x || y then [] else row_at t ∷ [])
    by true true k = refl
    by false true k = refl
    by true false k = ap (λ c. map row_at (if not c then t ∷ [] else [])) k
    by false false k = ap (λ c. map row_at (if not c then t ∷ [] else [])) k

or_last : (a b c : Bool) → (a || (b || c)) ≡ (b || (c || (a || false)))
or_last true true c = refl
or_last true false true = refl
or_last true false false = refl
or_last false true c = refl
or_last false false true = refl
or_last false false false = refl

pub names_more : (start mid next : Walk) (names : List OwnedTestInstanceId)
    (t : OwnedTestInstanceId) (b : Bool) → Names start mid names → is_seen mid.told t ≡ b
    → rows next.tests.items
    ≡ rows mid.tests.items ++ (if b then [] else fresh (RunEnds []) mid.number t ∷ [])
    → next.number ≡ mid.number → next.running ≡ mid.running
    → ((s : OwnedTestInstanceId) → is_seen next.told s ≡ (test_eq t s || is_seen mid.told s))
    → Names start next (names ++ t ∷ [])
names_more start mid next names t b h there more number running told = record {
  rows =
      let one = λ (n : ℕ). (if b then [] else fresh (RunEnds []) n t ∷ []) in
      let before =
      map (fresh (RunEnds []) start.number)
      (filter (λ s. not (is_seen start.told s)) (firsts names)) in
      more ∙ ap (λ rs. rs ++ one mid.number) h.rows
      ∙ append_assoc (rows start.tests.items) before (one mid.number)
      ∙ ap (λ m. rows start.tests.items ++ (before ++ one m)) h.number
      ∙ ap (λ rs. rows start.tests.items ++ rs)
      (sym (named-push (is_seen start.told) start.number names t b
      (sym (h.told t) ∙ there)));
  number = number ∙ h.number;
  running = running ∙ h.running;
  told = λ s. told s ∙ ap (λ c. test_eq t s || c) (h.told s)
      ∙ or_last (test_eq t s) (is_seen start.told s) (list_any (λ u. test_eq u s) names)
      ∙ ap (λ c. is_seen start.told s || c)
      (sym (list_any-append (λ u. test_eq u s) names (t ∷ [])));
}

pub append-nil : {X : Type 0} (xs : List X) → xs ++ [] ≡ xs
append-nil [] = refl
append-nil (x ∷ xs) = ap (λ ys. x ∷ ys) (append-nil xs)

pub names_none : (w : Walk) → Names w w []
names_none w = record {
  rows = sym (append-nil (rows w.tests.items));
  number = refl;
  running = refl;
  told = λ t. none (is_seen w.told t);
}
  where
    none : (b : Bool) → b ≡ (b || false)
    none true = refl
    none false = refl

-- ---- events that open no test that runs

pub fails : (old new : Walk) (t : OwnedTestInstanceId)
    → Touches old new (slot_of old.running.entries t) (closed old.number)
    → Takes (Fails t) old new
fails old new t h = record {
  rows = h.rows
      ∙ sym (append-nil (touched (slot_of old.running.entries t) (closed old.number)
      (rows old.tests.items)));
  number = h.number;
  running = λ s. ap (λ m. slot_of m.entries s) h.running;
  told = λ s. ap (λ d. is_seen d s) h.told;
}

pub skips : (old new : Walk) (t : OwnedTestInstanceId)
    → Pushes old new (fresh (Skips t) old.number t) → Takes (Skips t) old new
skips old new t h = record {
  rows = h.rows;
  number = h.number;
  running = λ s. ap (λ m. slot_of m.entries s) h.running;
  told = λ s. ap (λ d. is_seen d s) h.told;
}

-- ---- verdicts

-- the verdicts of the tests that are kept are those of the history
pub verdicts_are : (acts : List Act) (xs : List TestView) → rows xs ≡ rows_of acts
    → map (λ x. x.verdict) xs ≡ verdicts acts
verdicts_are acts xs e =
    of_views xs ∙ ap (map (λ (r : Row). r.verdict)) e ∙ of_places (tests acts)
  where
    of_views : (ys : List TestView)
        → map (λ x. x.verdict) ys ≡ map (λ (r : Row). r.verdict) (rows ys)
    of_views [] = refl
    of_views (y ∷ ys) = ap (λ vs. y.verdict ∷ vs) (of_views ys)

    of_places : (ps : List Place)
        → map (λ (r : Row). r.verdict) (map (row acts) ps) ≡ map (verdict acts) ps
    of_places [] = refl
    of_places (p ∷ ps) = ap (λ vs. verdict acts p ∷ vs) (of_places ps)

pub take_more : {A : Type 0} (ss : List A) (i : ℕ) (s : A) → i < length ss → s ≡ get_or ss i s
    → take (i + 1) ss ≡ take i ss ++ (s ∷ [])
take_more ss i s h is =
    ap (λ n. take n ss) (add-one i) ∙ take-suc ss i s h ∙ ap (λ x. take i ss ++ (x ∷ [])) (sym is)
