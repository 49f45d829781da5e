-- At most one test of a name is open.
use Rattle.std.proofs.Common.{◌≡◌, ◌<◌, ℕ, zero, suc, ◌+◌, Bool, true, false, ◌&&◌, not}
use Rattle.std.proofs.Common.{List, [], ◌∷◌, ◌++◌, length, map, filter, drop, reverse, refl, ap}
use Rattle.std.proofs.Common.{sym, ◌∙◌, arith, Option, Some, None, is_some}
use Rattle.std.proofs.Common.{option_to_list, slice_get, subst, if◌then◌else◌}
use Rattle.std.proofs.lemmas.List.{reverse-append, reverse-reverse}
use Rattle.std.specs.List.{find}
use Rattle.std.specs.Option.{option_or, option_map_or}
use Rattle.rec_events.proofs.TestOrder.{test_eq-true}
use Rattle.rec_events.specs.declared.instances.OwnedTestInstanceId.{OwnedTestInstanceId}
use Rattle.rec_events.specs.Tests.{test_eq}
use Rattle.rec_view.proofs.Tests.{fate-push, tests-push}
use Rattle.rec_view.specs.Acts.Act.{Starts, Retries, Fails, Ends, Skips, RunEnds, Silent}
use Rattle.rec_view.specs.Acts.{Act}
use Rattle.rec_view.specs.Open.{OneOpen, is_open, open_of, verdict_after}
use Rattle.rec_view.specs.Tests.{Place, by_fate, fate, is_running, is_start}
use Rattle.rec_view.specs.Tests.{opened, place, settles, tests, tests_after, turns, verdict}
use Rattle.rec_view.specs.Tests.{verdict_by}

-- ---- places lie within the history

abbrev pub Within : ℕ → List Place → Type 0
Within n [] = Unit {0}
Within n (p ∷ ps) = (p.at < n) × Within n ps

within-all : (n i : ℕ) (ts : List OwnedTestInstanceId) (ps : List Place) → i < n → Within n ps
    → Within n (map (place i) ts ++ ps)
within-all n i [] ps h k = k
within-all n i (t ∷ ts) ps h k = (h, within-all n i ts ps h k)

within_after : (n : ℕ) (past acts : List Act) → length past + length acts ≡ n
    → Within n (tests_after past acts)
within_after n past [] h = tt
within_after n past (act ∷ acts) h =
    within-all n (length past) (opened past act) (tests_after (act ∷ past) acts) (omega (arith, h))
    (within_after n (act ∷ past) acts (omega (arith, h)))

pub within : (acts : List Act) → Within (length acts) (tests acts)
within acts = within_after (length acts) [] acts (omega arith)

-- ---- one event more

pub get_before : {X : Type 0} (xs : List X) (x : X) (i : ℕ) → i < length xs
    → slice_get (xs ++ x ∷ []) i ≡ slice_get xs i
get_before [] x i h = absurd (omega (arith, h))
get_before (y ∷ xs) x zero h = refl
get_before (y ∷ xs) x (suc i) h = get_before xs x i (omega (arith, h))

pub get_last : {X : Type 0} (xs : List X) (x : X) → slice_get (xs ++ x ∷ []) (length xs) ≡ Some x
get_last [] x = refl
get_last (y ∷ xs) x = get_last xs x

pub drop_last : {X : Type 0} (xs : List X) (x : X) → drop (suc (length xs)) (xs ++ x ∷ []) ≡ []
drop_last [] x = refl
drop_last (y ∷ xs) x = drop_last xs x

is_some-or : {X : Type 0} (o : Option X) (b : Bool) (x : X)
    → not (is_some (option_or o (if b then Some x else None))) ≡ (not (is_some o) && not b)
is_some-or None true x = refl
is_some-or None false x = refl
is_some-or (Some y) true x = refl
is_some-or (Some y) false x = refl

and-assoc : (a b c : Bool) → (a && (b && c)) ≡ ((a && b) && c)
and-assoc true b c = refl
and-assoc false b c = refl

pub open-push : (acts : List Act) (act : Act) (p : Place) → p.at < length acts
    → is_open (acts ++ act ∷ []) p ≡ (is_open acts p && not (settles p.test act))
open-push acts act p h =
    ap (λ o. option_map_or is_start o false && not (is_some (fate (acts ++ act ∷ []) p)))
    (get_before acts act p.at h)
    ∙ ap (λ o. option_map_or is_start (slice_get acts p.at) false && not (is_some o))
    (fate-push acts act p h)
    ∙ ap (λ b. option_map_or is_start (slice_get acts p.at) false && b)
    (is_some-or (fate acts p) (settles p.test act) act)
    ∙ and-assoc (option_map_or is_start (slice_get acts p.at) false) (not (is_some (fate acts p)))
    (not (settles p.test act))

pub new-open : (acts : List Act) (act : Act) (t : OwnedTestInstanceId)
    → is_open (acts ++ act ∷ []) (place (length acts) t) ≡ is_start act
new-open acts act t =
    ap (λ o. option_map_or is_start o false
    && not (is_some (fate (acts ++ act ∷ []) (place (length acts) t)))) (get_last acts act)
    ∙ ap (λ (xs : List Act). is_start act && not (is_some (find (settles t) xs)))
    (drop_last acts act)
    ∙ and_true (is_start act)
  where
    and_true : (b : Bool) → (b && true) ≡ b
    and_true true = refl
    and_true false = refl

-- ---- filters

filter-append : {X : Type 0} (p : X → Bool) (xs ys : List X)
    → filter p (xs ++ ys) ≡ filter p xs ++ filter p ys
filter-append p [] ys = refl
filter-append p (x ∷ xs) ys = by (filter-append p xs ys) (p x)
  where
    by : filter p (xs ++ ys) ≡ filter p xs ++ filter p ys → (b : Bool)
        → (if b then x ∷ filter p (xs ++ ys) else filter p (xs ++ ys))
        ≡ (if b then x ∷ filter p xs else filter p xs) ++ filter p ys
    by more true = ap (λ zs. x ∷ zs) more
    by more false = more

-- the test of an old place
old_test : (acts : List Act) (act : Act) (t : OwnedTestInstanceId) (p : Place) → p.at < length acts
    → (test_eq p.test t && is_open (acts ++ act ∷ []) p)
    ≡ ((test_eq p.test t && is_open acts p) && not (settles t act))
old_test acts act t p h =
    ap (λ b. test_eq p.test t && b) (open-push acts act p h) ∙ by (test_eq p.test t) refl
  where
    by : (b : Bool) → test_eq p.test t ≡ b
        → (b && (is_open acts p && not (settles p.test act)))
        ≡ ((b && is_open acts p) && not (settles t act))
    by true e = ap (λ s. is_open acts p && not (settles s act)) (test_eq-true p.test t e)
    by false e = refl

abbrev keeps : (c : Bool) (acts : List Act) (t : OwnedTestInstanceId) → List Place → List Place
keeps true acts t ps = []
keeps false acts t ps = filter (λ p. test_eq p.test t && is_open acts p) ps

old_filter : (acts : List Act) (act : Act) (t : OwnedTestInstanceId) (ps : List Place)
    → Within (length acts) ps
    → filter (λ p. test_eq p.test t && is_open (acts ++ act ∷ []) p) ps
    ≡ keeps (settles t act) acts t ps
old_filter acts act t [] h = none (settles t act)
  where
    none : (c : Bool) → [] ≡ keeps c acts t []
    none true = refl
    none false = refl
old_filter acts act t (p ∷ ps) h = one (old_filter acts act t ps h.1)
  where
    by : (c a : Bool) (rest : List Place) → rest ≡ keeps c acts t ps
        → (test_eq p.test t && is_open acts p) ≡ a
        → (if a && not c then p ∷ rest else rest) ≡ keeps c acts t (p ∷ ps)
    by true true rest e k = e
    by true false rest e k = e
    by false true rest e k =
        ap (λ zs. p ∷ zs) e ∙ sym (ap
        (λ b. if b then p ∷ keeps false acts t ps else keeps false acts t ps) k)
    by false false rest e k =
        e ∙ sym (ap (λ b. if b then p ∷ keeps false acts t ps else keeps false acts t ps) k)

    one : filter (λ q. test_eq q.test t && is_open (acts ++ act ∷ []) q) ps
        ≡ keeps (settles t act) acts t ps
        → filter (λ q. test_eq q.test t && is_open (acts ++ act ∷ []) q) (p ∷ ps)
        ≡ keeps (settles t act) acts t (p ∷ ps)
    one more =
        ap (λ b. if b then p ∷ filter (λ q. test_eq q.test t && is_open (acts ++ act ∷ []) q) ps
        else filter (λ q. test_eq q.test t && is_open (acts ++ act ∷ []) q) ps)
        (old_test acts act t p h.0)
        ∙ by (settles t act) (test_eq p.test t && is_open acts p)
        (filter (λ q. test_eq q.test t && is_open (acts ++ act ∷ []) q) ps) more refl

-- the new places of a name
abbrev named : OwnedTestInstanceId → ℕ → List OwnedTestInstanceId → List Place
named t n ts = filter (λ p. test_eq p.test t) (map (place n) ts)

new_filter : (acts : List Act) (act : Act) (t : OwnedTestInstanceId) (ts : List OwnedTestInstanceId)
    → filter (λ p. test_eq p.test t && is_open (acts ++ act ∷ []) p) (map (place (length acts)) ts)
    ≡ (if is_start act then named t (length acts) ts else [])
new_filter acts act t [] = none (is_start act)
  where
    none : (c : Bool) → [] ≡ (if c then named t (length acts) [] else [])
    none true = refl
    none false = refl
new_filter acts act t (s ∷ ts) = one (new_filter acts act t ts)
  where
    by : (c a : Bool) (rest : List Place) → rest ≡ (if c then named t (length acts) ts else [])
        → test_eq s t ≡ a
        → (if a && c then place (length acts) s ∷ rest else rest)
        ≡ (if c then named t (length acts) (s ∷ ts) else [])
    by true true rest e k =
        ap (λ zs. place (length acts) s ∷ zs) e
        ∙ sym (ap (λ b. if b then place (length acts) s ∷ named t (length acts) ts
        else named t (length acts) ts) k)
    by true false rest e k =
        e ∙ sym (ap (λ b. if b then place (length acts) s ∷ named t (length acts) ts
        else named t (length acts) ts) k)
    by false true rest e k = e
    by false false rest e k = e

    one : filter (λ p. test_eq p.test t && is_open (acts ++ act ∷ []) p)
        (map (place (length acts)) ts) ≡ (if is_start act then named t (length acts) ts else [])
        → filter (λ p. test_eq p.test t && is_open (acts ++ act ∷ []) p)
        (map (place (length acts)) (s ∷ ts))
        ≡ (if is_start act then named t (length acts) (s ∷ ts) else [])
    one more =
        ap (λ o. if test_eq s t && o then place (length acts) s
        ∷ filter (λ p. test_eq p.test t && is_open (acts ++ act ∷ []) p)
        (map (place (length acts)) ts)
        else filter (λ p. test_eq p.test t && is_open (acts ++ act ∷ []) p)
        (map (place (length acts)) ts)) (new-open acts act s)
        ∙ by (is_start act) (test_eq s t)
        (filter (λ p. test_eq p.test t && is_open (acts ++ act ∷ []) p)
        (map (place (length acts)) ts)) more refl

open_of-push : (acts : List Act) (act : Act) (t : OwnedTestInstanceId)
    → open_of t (acts ++ act ∷ [])
    ≡ keeps (settles t act) acts t (tests acts)
    ++ (if is_start act then named t (length acts) (opened (reverse acts) act) else [])
open_of-push acts act t =
    ap (filter (λ p. test_eq p.test t && is_open (acts ++ act ∷ []) p)) (tests-push acts act)
    ∙ filter-append (λ p. test_eq p.test t && is_open (acts ++ act ∷ []) p) (tests acts)
    (map (place (length acts)) (opened (reverse acts) act))
    ∙ ap (λ zs. zs ++ filter (λ p. test_eq p.test t && is_open (acts ++ act ∷ []) p)
    (map (place (length acts)) (opened (reverse acts) act)))
    (old_filter acts act t (tests acts) (within acts))
    ∙ ap (λ zs. keeps (settles t act) acts t (tests acts) ++ zs)
    (new_filter acts act t (opened (reverse acts) act))

append-none : {X : Type 0} (xs : List X) → xs ++ [] ≡ xs
append-none [] = refl
append-none (x ∷ xs) = ap (λ ys. x ∷ ys) (append-none xs)

-- what is open of a name, and whether the name runs, after an event
module _ (acts : List Act) (t : OwnedTestInstanceId) (o : Option Place)
    (all : open_of t acts ≡ option_to_list o) (runs : is_running t (reverse acts) ≡ is_some o) where
  -- the event says nothing of the name
  same : (act : Act) → turns t act ≡ false
      → keeps (settles t act) acts t (tests acts)
      ++ (if is_start act then named t (length acts) (opened (reverse acts) act) else [])
      ≡ open_of t acts
      → (p : Option Place) × (keeps (settles t act) acts t (tests acts)
      ++ (if is_start act then named t (length acts) (opened (reverse acts) act) else [])
      ≡ option_to_list p) × (is_running t (act ∷ reverse acts) ≡ is_some p)
  same act e k = (
    o,
    k ∙ all,
    ap (λ b. option_map_or is_start
        (if b then Some act else find (turns t) (reverse acts)) false) e ∙ runs,
  )

  abbrev Goal : Act → Type 0
  Goal act =
      (p : Option Place) × (keeps (settles t act) acts t (tests acts)
      ++ (if is_start act then named t (length acts) (opened (reverse acts) act) else [])
      ≡ option_to_list p) × (is_running t (act ∷ reverse acts) ≡ is_some p)

  after_start : (s : OwnedTestInstanceId) (b : Bool)
      → (p : Option Place) × (keeps b acts t (tests acts)
      ++ (if b then place (length acts) s ∷ [] else []) ≡ option_to_list p)
      × (option_map_or is_start (if b then Some (Starts s) else find (turns t) (reverse acts))
      false ≡ is_some p)
  after_start s true = (Some (place (length acts) s), refl, refl)
  after_start s false = (o, append-none (open_of t acts) ∙ all, runs)

  -- the name runs already, or this opens a test
  retry_of : (s : OwnedTestInstanceId) (b r : Bool) (o' : Option Place)
      → is_running s (reverse acts) ≡ r → test_eq s t ≡ b → o ≡ o'
      → (p : Option Place) × (open_of t acts ++ named t (length acts) (if r then [] else s ∷ [])
      ≡ option_to_list p) × (option_map_or is_start
      (if b then Some (Retries s) else find (turns t) (reverse acts)) false ≡ is_some p)
  retry_of s true true None e k is =
      absurd (by (sym e ∙ ap (λ u. is_running u (reverse acts)) (test_eq-true s t k) ∙ runs
      ∙ ap is_some is))
    where
      by : true ≡ false → ⊥
      by h = grind (arith, h)
  retry_of s true true (Some p) e k is =
      (Some p, append-none (open_of t acts) ∙ all ∙ ap option_to_list is, refl)
  retry_of s true false None e k is = (
    Some (place (length acts) s),
    ap (λ zs. zs ++ named t (length acts) (s ∷ [])) (all ∙ ap option_to_list is)
        ∙ ap (λ b. if b then place (length acts) s ∷ [] else []) k,
    refl,
  )
  retry_of s true false (Some p) e k is =
      absurd (by (sym e ∙ ap (λ u. is_running u (reverse acts)) (test_eq-true s t k) ∙ runs
      ∙ ap is_some is))
    where
      by : false ≡ true → ⊥
      by h = grind (arith, h)
  retry_of s false true o' e k is = (o, append-none (open_of t acts) ∙ all, runs)
  retry_of s false false o' e k is = (
    o,
    ap (λ b. open_of t acts ++ (if b then place (length acts) s ∷ [] else [])) k
        ∙ append-none (open_of t acts) ∙ all,
    runs,
  )

  after_end : (act : Act) (b : Bool) → is_start act ≡ false
      → (p : Option Place) × (keeps b acts t (tests acts) ++ [] ≡ option_to_list p)
      × (option_map_or is_start (if b then Some act else find (turns t) (reverse acts)) false
      ≡ is_some p)
  after_end act true e = (None, refl, e)
  after_end act false e = (o, append-none (open_of t acts) ∙ all, runs)

  step : (act : Act) → Goal act
  step (Starts s) = after_start s (test_eq s t)
  step (Retries s) = retry_of s (test_eq s t) (is_running s (reverse acts)) o refl refl refl
  step (Ends s v) = after_end (Ends s v) (test_eq s t) refl
  step (Fails s) = same (Fails s) refl (append-none (open_of t acts))
  step (Skips s) = same (Skips s) refl (append-none (open_of t acts))
  step (RunEnds names) = same (RunEnds names) refl (append-none (open_of t acts))
  step Silent = same Silent refl (append-none (open_of t acts))

pub open-more : (acts : List Act) (act : Act) (t : OwnedTestInstanceId) → OneOpen acts t
    → OneOpen (acts ++ act ∷ []) t
open-more acts act t one =
    let s = step acts t one.place one.all one.runs act in
    record {
      place = s.0;
      all = open_of-push acts act t ∙ s.1;
      runs =
          ap (is_running t) (reverse-append acts (act ∷ [])) ∙ s.2;
    }

by_past : (past : List Act) (t : OwnedTestInstanceId) → OneOpen (reverse past) t
by_past [] t = record { place = None; all = refl; runs = refl }
by_past (act ∷ past) t =
    subst (λ acts. OneOpen acts t) (sym (reverse-append (act ∷ []) past))
    (open-more (reverse past) act t (by_past past t))

pub one_open : (acts : List Act) (t : OwnedTestInstanceId) → OneOpen acts t
one_open acts t = subst (λ xs. OneOpen xs t) (reverse_twice acts) (by_past (reverse acts) t)
  where
    reverse_twice : (xs : List Act) → reverse (reverse xs) ≡ xs
    reverse_twice xs = reverse-reverse xs

-- ---- verdicts

pub verdict-push : (acts : List Act) (act : Act) (p : Place) → p.at < length acts
    → verdict (acts ++ act ∷ []) p ≡ verdict_after act (is_open acts p) p (verdict acts p)
verdict-push acts act p h =
    ap (λ o. verdict_by o (fate (acts ++ act ∷ []) p)) (get_before acts act p.at h)
    ∙ ap (verdict_by (slice_get acts p.at)) (fate-push acts act p h)
    ∙ by (slice_get acts p.at) (fate acts p) (settles p.test act)
  where
    start : (f : Option Act) (b : Bool)
        → by_fate (option_or f (if b then Some act else None))
        ≡ (if (not (is_some f)) && b then by_fate (Some act) else by_fate f)
    start None true = refl
    start None false = refl
    start (Some x) true = refl
    start (Some x) false = refl

    by : (o f : Option Act) (b : Bool) → verdict_by o (option_or f (if b then Some act else None))
        ≡ (if (option_map_or is_start o false && not (is_some f)) && b then by_fate (Some act)
        else verdict_by o f)
    by None f b = refl
    by (Some (Starts s)) f b = start f b
    by (Some (Retries s)) f b = start f b
    by (Some (Ends s v)) f b = refl
    by (Some (Fails s)) f b = refl
    by (Some (Skips s)) f b = refl
    by (Some (RunEnds names)) f b = refl
    by (Some Silent) f b = refl

pub new_verdict : (acts : List Act) (act : Act) (t : OwnedTestInstanceId)
    → verdict (acts ++ act ∷ []) (place (length acts) t) ≡ verdict_by (Some act) None
new_verdict acts act t =
    ap (λ o. verdict_by o (fate (acts ++ act ∷ []) (place (length acts) t))) (get_last acts act)
    ∙ ap (λ (xs : List Act). verdict_by (Some act) (find (settles t) xs)) (drop_last acts act)
