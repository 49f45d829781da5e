-- The attempts of a test, with one event more.
use Rattle.std.proofs.Common.{◌≡◌, ◌≤◌, ◌<◌, ◌⊎◌, inl, inr, ℕ, zero, suc, ◌+◌, Bool, true}
use Rattle.std.proofs.Common.{false, ◌&&◌, not}
use Rattle.std.proofs.Common.{List, [], ◌∷◌, ◌++◌, length, map, drop, reverse, refl, ap, sym, ◌∙◌}
use Rattle.std.proofs.Common.{arith, Option, Some, None, is_some, subst, if◌then◌else◌}
use Rattle.std.proofs.lemmas.List.{length-append, length-drop, map-append, reverse-append}
use Rattle.std.proofs.lemmas.List.{reverse-reverse}
use Rattle.std.specs.List.{find}
use Rattle.std.specs.Option.{option_map_or, option_or}
use Rattle.rec_events.specs.declared.instances.OwnedTestInstanceId.{OwnedTestInstanceId}
use Rattle.rec_events.specs.Tests.{test_eq}
use Rattle.rec_spans.proofs.PlacesOfHistory.{below_suc}
use Rattle.rec_view.proofs.Open.{drop_last, get_before, get_last, new-open, open-push}
use Rattle.rec_view.proofs.Tests.{drop-push}
use Rattle.rec_view.specs.Acts.Act.{Starts, Retries, Fails, Ends, Skips, RunEnds, Silent}
use Rattle.rec_view.specs.Acts.{Act}
use Rattle.rec_view.specs.Attempts.{attempt, attempts, cuts, end_of, is_retry, retries}
use Rattle.rec_view.specs.Attempts.{starts_of}
use Rattle.rec_view.specs.declared.test_views.Attempt.{Attempt}
use Rattle.rec_view.specs.Ends.{first_from}
use Rattle.rec_view.specs.Open.{is_open}
use Rattle.rec_view.specs.Tests.{Place, fate, is_start, opens, place, settles}
use Rattle.rec_view.specs.Walked.{begun_at, close_last}

pub differ : {X : Type 0} → true ≡ false → X
differ h = absurd (grind (arith, h))

pub append-none : {X : Type 0} (xs : List X) → xs ++ [] ≡ xs
append-none [] = refl
append-none (x ∷ xs) = ap (λ ys. x ∷ ys) (append-none xs)

-- ---- what an event says of an attempt

pub uncut_settles : (t : OwnedTestInstanceId) (act : Act) → cuts t act ≡ false
    → settles t act ≡ false
uncut_settles t (Starts s) e = e
uncut_settles t (Retries s) e = refl
uncut_settles t (Fails s) e = refl
uncut_settles t (Ends s v) e = e
uncut_settles t (Skips s) e = refl
uncut_settles t (RunEnds names) e = refl
uncut_settles t Silent e = refl

pub uncut_retry : (t : OwnedTestInstanceId) (act : Act) → cuts t act ≡ false
    → is_retry t act ≡ false
uncut_retry t (Starts s) e = refl
uncut_retry t (Retries s) e = e
uncut_retry t (Fails s) e = refl
uncut_retry t (Ends s v) e = refl
uncut_retry t (Skips s) e = refl
uncut_retry t (RunEnds names) e = refl
uncut_retry t Silent e = refl

settled_cut : (t : OwnedTestInstanceId) (act : Act) → settles t act ≡ true → cuts t act ≡ true
settled_cut t act e = by (cuts t act) refl
  where
    by : (b : Bool) → cuts t act ≡ b → b ≡ true
    by true c = refl
    by false c = differ (sym e ∙ uncut_settles t act c)

settled_retry : (t : OwnedTestInstanceId) (act : Act) → settles t act ≡ true
    → is_retry t act ≡ false
settled_retry t (Starts s) e = refl
settled_retry t (Retries s) e = differ (sym e)
settled_retry t (Fails s) e = differ (sym e)
settled_retry t (Ends s v) e = refl
settled_retry t (Skips s) e = differ (sym e)
settled_retry t (RunEnds names) e = differ (sym e)
settled_retry t Silent e = differ (sym e)

-- ---- where attempts end

first_from-push : (p : Act → Bool) (i : ℕ) (xs : List Act) (x : Act)
    → first_from p i (xs ++ x ∷ [])
    ≡ option_or (first_from p i xs) (if p x then Some (i + length xs) else None)
first_from-push p i [] x = ap (λ m. if p x then Some m else None) here
  where
    here : i ≡ i + zero
    here = omega arith
first_from-push p i (y ∷ xs) x = by (p y) (first_from-push p (suc i) xs x)
  where
    next : suc i + length xs ≡ i + suc (length xs)
    next = omega arith

    by : (b : Bool)
        → first_from p (suc i) (xs ++ x ∷ [])
        ≡ option_or (first_from p (suc i) xs) (if p x then Some (suc i + length xs) else None)
        → (if b then Some i else first_from p (suc i) (xs ++ x ∷ []))
        ≡ option_or (if b then Some i else first_from p (suc i) xs)
        (if p x then Some (i + suc (length xs)) else None)
    by true more = refl
    by false more =
        more
        ∙ ap (λ m. option_or (first_from p (suc i) xs) (if p x then Some m else None)) next

pub end_of-push : (acts : List Act) (act : Act) (t : OwnedTestInstanceId) (k : ℕ)
    → k < length acts
    → end_of (acts ++ act ∷ []) t k
    ≡ option_or (end_of acts t k) (if cuts t act then Some (length acts) else None)
end_of-push acts act t k h =
    let left = length-drop (suc k) acts in
    let place : suc k + length (drop (suc k) acts) ≡ length acts = omega (arith, left, h) in
    ap (first_from (cuts t) (suc k)) (drop-push acts act (suc k) (omega (arith, h)))
    ∙ first_from-push (cuts t) (suc k) (drop (suc k) acts) act
    ∙ ap (λ m. option_or (end_of acts t k) (if cuts t act then Some m else None)) place

end_of-new : (acts : List Act) (act : Act) (t : OwnedTestInstanceId)
    → end_of (acts ++ act ∷ []) t (length acts) ≡ None
end_of-new acts act t = ap (first_from (cuts t) (suc (length acts))) (drop_last acts act)

-- ---- where attempts start

abbrev one_at : Bool → ℕ → List ℕ
one_at b n = if b then n ∷ [] else []

abbrev unless : Bool → List ℕ → List ℕ
unless b xs = if b then [] else xs

unless-none : (b : Bool) → unless b [] ≡ []
unless-none true = refl
unless-none false = refl

last_retry : (t : OwnedTestInstanceId) (i : ℕ) (x : Act)
    → retries t i (x ∷ []) ≡ one_at (is_retry t x) i
last_retry t i (Starts s) = unless-none (test_eq s t)
last_retry t i (Retries s) = refl
last_retry t i (Fails s) = refl
last_retry t i (Ends s v) = unless-none (test_eq s t)
last_retry t i (Skips s) = refl
last_retry t i (RunEnds names) = refl
last_retry t i Silent = refl

retries-push : (t : OwnedTestInstanceId) (i : ℕ) (xs : List Act) (x : Act)
    → retries t i (xs ++ x ∷ [])
    ≡ retries t i xs
    ++ unless (is_some (find (settles t) xs)) (one_at (is_retry t x) (i + length xs))
retries-push t i [] x = last_retry t i x ∙ ap (one_at (is_retry t x)) here
  where
    here : i ≡ i + zero
    here = omega arith
retries-push t i (y ∷ xs) x =
    by (settles t y) (is_retry t y) (retries-push t (suc i) xs x
    ∙ ap (λ m. retries t (suc i) xs
    ++ unless (is_some (find (settles t) xs)) (one_at (is_retry t x) m)) next)
  where
    next : suc i + length xs ≡ i + suc (length xs)
    next = omega arith

    tail : Bool → List ℕ
    tail some = unless some (one_at (is_retry t x) (i + suc (length xs)))

    by : (a b : Bool)
        → retries t (suc i) (xs ++ x ∷ [])
        ≡ retries t (suc i) xs ++ tail (is_some (find (settles t) xs))
        → (if a then []
        else (if b then i ∷ retries t (suc i) (xs ++ x ∷ [])
        else retries t (suc i) (xs ++ x ∷ [])))
        ≡ (if a then []
        else (if b then i ∷ retries t (suc i) xs else retries t (suc i) xs))
        ++ tail (is_some (if a then Some y else find (settles t) xs))
    by true b more = refl
    by false true more = ap (λ ks. i ∷ ks) more
    by false false more = more

starts-push : (acts : List Act) (act : Act) (p : Place) → p.at < length acts
    → starts_of (acts ++ act ∷ []) p
    ≡ starts_of acts p ++ one_at (is_open acts p && is_retry p.test act) (length acts)
starts-push acts act p h =
    ap (λ o. if option_map_or is_start o false
    then p.at ∷ retries p.test (suc p.at) (drop (suc p.at) (acts ++ act ∷ [])) else [])
    (get_before acts act p.at h)
    ∙ by (opens acts p) (fate acts p)
    (ap (retries p.test (suc p.at)) (drop-push acts act (suc p.at) (omega (arith, h)))
    ∙ retries-push p.test (suc p.at) (drop (suc p.at) acts) act
    ∙ ap (λ m. retries p.test (suc p.at) (drop (suc p.at) acts)
    ++ unless (is_some (fate acts p)) (one_at (is_retry p.test act) m)) place)
  where
    place : suc p.at + length (drop (suc p.at) acts) ≡ length acts
    place = let left = length-drop (suc p.at) acts in omega (arith, left, h)

    rest : List ℕ
    rest = retries p.test (suc p.at) (drop (suc p.at) (acts ++ act ∷ []))

    old : List ℕ
    old = retries p.test (suc p.at) (drop (suc p.at) acts)

    by : (o : Bool) (f : Option Act)
        → rest ≡ old ++ unless (is_some f) (one_at (is_retry p.test act) (length acts))
        → (if o then p.at ∷ rest else [])
        ≡ (if o then p.at ∷ old else [])
        ++ one_at ((o && not (is_some f)) && is_retry p.test act) (length acts)
    by false f more = refl
    by true None more = ap (λ ks. p.at ∷ ks) more
    by true (Some x) more = ap (λ ks. p.at ∷ ks) more

-- they stand within the history
abbrev pub AllBelow : ℕ → List ℕ → Type 0
AllBelow n [] = Unit {0}
AllBelow n (k ∷ ks) = (k < n) × AllBelow n ks

retries-below : (t : OwnedTestInstanceId) (n i : ℕ) (xs : List Act) → i + length xs ≤ n
    → AllBelow n (retries t i xs)
retries-below t n i [] h = tt
retries-below t n i (x ∷ xs) h =
    by (settles t x) (is_retry t x) (retries-below t n (suc i) xs (omega (arith, h)))
  where
    by : (a b : Bool) → AllBelow n (retries t (suc i) xs)
        → AllBelow n (if a then []
        else (if b then i ∷ retries t (suc i) xs else retries t (suc i) xs))
    by true b more = tt
    by false true more = (omega (arith, h), more)
    by false false more = more

pub starts-below : (acts : List Act) (p : Place) → p.at < length acts
    → AllBelow (length acts) (starts_of acts p)
starts-below acts p h =
    by (opens acts p) (retries-below p.test (length acts) (suc p.at) (drop (suc p.at) acts) le)
  where
    le : suc p.at + length (drop (suc p.at) acts) ≤ length acts
    le = let left = length-drop (suc p.at) acts in omega (arith, left, h)

    by : (b : Bool) → AllBelow (length acts) (retries p.test (suc p.at) (drop (suc p.at) acts))
        → AllBelow (length acts)
        (if b then p.at ∷ retries p.test (suc p.at) (drop (suc p.at) acts) else [])
    by true more = (h, more)
    by false more = tt

-- ---- the attempts

abbrev pub from_to : ℕ → Option ℕ → Attempt
from_to k end = record { from = k; to = end }

-- each attempt without an end has this one
abbrev pub shut : Option ℕ → List Attempt → List Attempt
shut end xs = map (λ a. from_to a.from (option_or a.to end)) xs

abbrev end_at : Bool → ℕ → Option ℕ
end_at b n = if b then Some n else None

old_attempts : (acts : List Act) (act : Act) (t : OwnedTestInstanceId) (ks : List ℕ)
    → AllBelow (length acts) ks
    → map (attempt (acts ++ act ∷ []) t) ks
    ≡ shut (end_at (cuts t act) (length acts)) (map (attempt acts t) ks)
old_attempts acts act t [] h = refl
old_attempts acts act t (k ∷ ks) h =
    ap (λ e. from_to k e ∷ map (attempt (acts ++ act ∷ []) t) ks)
    (end_of-push acts act t k h.0)
    ∙ ap (λ xs. from_to k (option_or (end_of acts t k) (end_at (cuts t act) (length acts)))
    ∷ xs) (old_attempts acts act t ks h.1)

abbrev one_begun : Bool → ℕ → List Attempt
one_begun b n = if b then begun_at n ∷ [] else []

new_attempts : (acts : List Act) (act : Act) (t : OwnedTestInstanceId) (b : Bool)
    → map (attempt (acts ++ act ∷ []) t) (one_at b (length acts)) ≡ one_begun b (length acts)
new_attempts acts act t true =
    ap (λ e. from_to (length acts) e ∷ []) (end_of-new acts act t)
new_attempts acts act t false = refl

pub attempts-push : (acts : List Act) (act : Act) (p : Place) → p.at < length acts
    → attempts (acts ++ act ∷ []) p
    ≡ shut (end_at (cuts p.test act) (length acts)) (attempts acts p)
    ++ one_begun (is_open acts p && is_retry p.test act) (length acts)
attempts-push acts act p h =
    let f = attempt (acts ++ act ∷ []) p.test in
    let b = is_open acts p && is_retry p.test act in
    ap (map f) (starts-push acts act p h)
    ∙ map-append f (starts_of acts p) (one_at b (length acts))
    ∙ ap (λ xs. xs ++ map f (one_at b (length acts)))
    (old_attempts acts act p.test (starts_of acts p) (starts-below acts p h))
    ∙ ap (λ xs. shut (end_at (cuts p.test act) (length acts)) (attempts acts p) ++ xs)
    (new_attempts acts act p.test b)

-- those of a test that the event opens
pub attempts-new : (acts : List Act) (act : Act) (t : OwnedTestInstanceId)
    → attempts (acts ++ act ∷ []) (place (length acts) t) ≡ one_begun (is_start act) (length acts)
attempts-new acts act t =
    let f = attempt (acts ++ act ∷ []) t in
    ap (λ o. map f (if option_map_or is_start o false
    then length acts
    ∷ retries t (suc (length acts)) (drop (suc (length acts)) (acts ++ act ∷ []))
    else [])) (get_last acts act)
    ∙ ap (λ (xs : List Act). map f
    (if is_start act then length acts ∷ retries t (suc (length acts)) xs else []))
    (drop_last acts act)
    ∙ new_attempts acts act t (is_start act)

-- ---- which attempts have an end

abbrev pub AllEnded : List Attempt → Type 0
AllEnded [] = Unit {0}
AllEnded (a ∷ xs) = (is_some a.to ≡ true) × AllEnded xs

abbrev pub ButLast : List Attempt → Type 0
ButLast [] = Unit {0}
ButLast (a ∷ []) = Unit {0}
ButLast (a ∷ b ∷ xs) = (is_some a.to ≡ true) × ButLast (b ∷ xs)

same_end : (a : Attempt) (end : Option ℕ) → is_some a.to ≡ true
    → from_to a.from (option_or a.to end) ≡ a
same_end a end h = by a.to refl h
  where
    by : (o : Option ℕ) → a.to ≡ o → is_some o ≡ true
        → from_to a.from (option_or a.to end) ≡ a
    by None e k = differ (sym k)
    by (Some z) e k =
        ap (λ o. from_to a.from (option_or o end)) e
        ∙ sym (ap (λ o. from_to a.from o) e)

shut-ended : (end : Option ℕ) (xs : List Attempt) → AllEnded xs → shut end xs ≡ xs
shut-ended end [] h = refl
shut-ended end (a ∷ xs) h =
    ap (λ x. x ∷ shut end xs) (same_end a end h.0) ∙ ap (λ xs. a ∷ xs) (shut-ended end xs h.1)

shut-none : (xs : List Attempt) → shut None xs ≡ xs
shut-none [] = refl
shut-none (a ∷ xs) =
    ap (λ o. from_to a.from o ∷ shut None xs) (or_none a.to)
    ∙ ap (λ xs. a ∷ xs) (shut-none xs)
  where
    or_none : (o : Option ℕ) → option_or o None ≡ o
    or_none None = refl
    or_none (Some z) = refl

shut-all : (n : ℕ) (xs : List Attempt) → AllEnded (shut (Some n) xs)
shut-all n [] = tt
shut-all n (a ∷ xs) = (ends a.to, shut-all n xs)
  where
    ends : (o : Option ℕ) → is_some (option_or o (Some n)) ≡ true
    ends None = refl
    ends (Some z) = refl

shut-last : (n : ℕ) (xs : List Attempt) → ButLast xs → shut (Some n) xs ≡ close_last n xs
shut-last n [] h = refl
shut-last n (a ∷ []) h = refl
shut-last n (a ∷ b ∷ xs) h =
    ap (λ x. x ∷ shut (Some n) (b ∷ xs)) (same_end a (Some n) h.0)
    ∙ ap (λ xs. a ∷ xs) (shut-last n (b ∷ xs) h.1)

ended-but_last : (xs bs : List Attempt) → AllEnded xs → ButLast bs → ButLast (xs ++ bs)
ended-but_last [] bs h k = k
ended-but_last (a ∷ []) [] h k = tt
ended-but_last (a ∷ []) (b ∷ bs) h k = (h.0, k)
ended-but_last (a ∷ c ∷ xs) bs h k = (h.0, ended-but_last (c ∷ xs) bs h.1 k)

one-but_last : (b : Bool) (n : ℕ) → ButLast (one_begun b n)
one-but_last true n = tt
one-but_last false n = tt

and_false : (a b : Bool) → b ≡ false → (a && b) ≡ false
and_false true b h = h
and_false false b h = refl

-- with an event that says nothing of the attempts
pub attempts-uncut : (acts : List Act) (act : Act) (p : Place) → p.at < length acts
    → cuts p.test act ≡ false → attempts (acts ++ act ∷ []) p ≡ attempts acts p
attempts-uncut acts act p h e =
    attempts-push acts act p h
    ∙ ap (λ c. shut (end_at c (length acts)) (attempts acts p)
    ++ one_begun (is_open acts p && is_retry p.test act) (length acts)) e
    ∙ ap (λ xs. xs ++ one_begun (is_open acts p && is_retry p.test act) (length acts))
    (shut-none (attempts acts p))
    ∙ ap (λ b. attempts acts p ++ one_begun b (length acts))
    (and_false (is_open acts p) (is_retry p.test act) (uncut_retry p.test act e))
    ∙ append-none (attempts acts p)

-- of a test that is over, where its attempts have ends
over : (acts : List Act) (act : Act) (p : Place) → p.at < length acts → is_open acts p ≡ false
    → AllEnded (attempts acts p) → attempts (acts ++ act ∷ []) p ≡ attempts acts p
over acts act p h e ended =
    attempts-push acts act p h
    ∙ ap (λ xs. xs ++ one_begun (is_open acts p && is_retry p.test act) (length acts))
    (shut-ended (end_at (cuts p.test act) (length acts)) (attempts acts p) ended)
    ∙ ap (λ b. attempts acts p ++ one_begun (b && is_retry p.test act) (length acts)) e
    ∙ append-none (attempts acts p)

-- with an event that cuts the open one
cut_attempts : (acts : List Act) (act : Act) (p : Place) → p.at < length acts
    → cuts p.test act ≡ true
    → attempts (acts ++ act ∷ []) p
    ≡ shut (Some (length acts)) (attempts acts p)
    ++ one_begun (is_open acts p && is_retry p.test act) (length acts)
cut_attempts acts act p h e =
    attempts-push acts act p h
    ∙ ap (λ c. shut (end_at c (length acts)) (attempts acts p)
    ++ one_begun (is_open acts p && is_retry p.test act) (length acts)) e

-- what is known of the attempts of a test after a history
pub record Known (acts : List Act) (p : Place) : Type 0 where
  pub ended : is_open acts p ≡ false → AllEnded (attempts acts p)
  pub but_last : ButLast (attempts acts p)

known-old : (acts : List Act) (act : Act) (p : Place) → p.at < length acts → Known acts p
    → Known (acts ++ act ∷ []) p
known-old acts act p h k = by (is_open acts p) (cuts p.test act) refl refl
  where
    same : attempts (acts ++ act ∷ []) p ≡ attempts acts p
        → (is_open (acts ++ act ∷ []) p ≡ false → AllEnded (attempts acts p))
        → Known (acts ++ act ∷ []) p
    same e ended = record {
      ended = λ o. subst AllEnded (sym e) (ended o);
      but_last = subst ButLast (sym e) k.but_last;
    }

    by : (o c : Bool) → is_open acts p ≡ o → cuts p.test act ≡ c → Known (acts ++ act ∷ []) p
    by false c e f = same (over acts act p h e (k.ended e)) (λ q. k.ended e)
    by true false e f =
        same (attempts-uncut acts act p h f)
        (λ q. differ (sym (ap (λ b. is_open acts p && not b) (uncut_settles p.test act f)
        ∙ ap (λ b. b && true) e) ∙ sym (open-push acts act p h) ∙ q))
    by true true e f = record {
      ended = λ q.
          let s = settles_now (settles p.test act)
          (sym (ap (λ b. b && not (settles p.test act)) e) ∙ sym (open-push acts act p h) ∙ q)
          in
          subst AllEnded (sym (cut_attempts acts act p h f
          ∙ ap (λ b. shut (Some (length acts)) (attempts acts p) ++ one_begun b (length acts))
          (and_false (is_open acts p) (is_retry p.test act) (settled_retry p.test act s))
          ∙ append-none (shut (Some (length acts)) (attempts acts p))))
          (shut-all (length acts) (attempts acts p));
      but_last = subst ButLast (sym (cut_attempts acts act p h f))
          (ended-but_last (shut (Some (length acts)) (attempts acts p))
          (one_begun (is_open acts p && is_retry p.test act) (length acts))
          (shut-all (length acts) (attempts acts p))
          (one-but_last (is_open acts p && is_retry p.test act) (length acts)));
    }
      where
        settles_now : (b : Bool) → not b ≡ false → b ≡ true
        settles_now true q = refl
        settles_now false q = differ q

known-new : (acts : List Act) (act : Act) (t : OwnedTestInstanceId)
    → Known (acts ++ act ∷ []) (place (length acts) t)
known-new acts act t = record {
  ended = λ q.
      subst AllEnded (sym (attempts-new acts act t
      ∙ ap (λ b. one_begun b (length acts)) (sym (new-open acts act t) ∙ q))) tt;
  but_last =
      subst ButLast (sym (attempts-new acts act t)) (one-but_last (is_start act) (length acts));
}

known_by : (past : List Act) (p : Place) → p.at < length (reverse past) → Known (reverse past) p
known_by [] p = λ h. absurd (omega (arith, h))
known_by (act ∷ past) p =
    subst (λ acts. p.at < length acts → Known acts p) (sym (reverse-append (act ∷ []) past))
    (λ h. by (known_by past p) (below_suc p.at (length (reverse past)) (lower h)))
  where
    lower : p.at < length (reverse past ++ act ∷ []) → p.at < suc (length (reverse past))
    lower h = let e = length-append (reverse past) (act ∷ []) in omega (arith, h, e)

    by : (p.at < length (reverse past) → Known (reverse past) p)
        → (p.at ≡ length (reverse past)) ⊎ (p.at < length (reverse past))
        → Known (reverse past ++ act ∷ []) p
    by before (inl e) =
        subst (λ n. Known (reverse past ++ act ∷ []) (place n p.test)) (sym e)
        (known-new (reverse past) act p.test)
    by before (inr lt) = known-old (reverse past) act p lt (before lt)

pub known : (acts : List Act) (p : Place) → p.at < length acts → Known acts p
known acts p =
    subst (λ xs. p.at < length xs → Known xs p) (reverse-reverse acts) (known_by (reverse acts) p)

-- ---- the attempts of a test that is over, and of one that is open

pub attempts-over : (acts : List Act) (act : Act) (p : Place) → p.at < length acts
    → is_open acts p ≡ false → attempts (acts ++ act ∷ []) p ≡ attempts acts p
attempts-over acts act p h e = over acts act p h e ((known acts p h).ended e)

pub attempts-cut : (acts : List Act) (act : Act) (p : Place) → p.at < length acts
    → cuts p.test act ≡ true → is_open acts p ≡ true
    → attempts (acts ++ act ∷ []) p
    ≡ close_last (length acts) (attempts acts p) ++ one_begun (is_retry p.test act) (length acts)
attempts-cut acts act p h c o =
    cut_attempts acts act p h c
    ∙ ap (λ xs. xs ++ one_begun (is_open acts p && is_retry p.test act) (length acts))
    (shut-last (length acts) (attempts acts p) (known acts p h).but_last)
    ∙ ap (λ b. close_last (length acts) (attempts acts p)
    ++ one_begun (b && is_retry p.test act) (length acts)) o
