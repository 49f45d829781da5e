-- Where attempts start, by positions.
use Rattle.std.proofs.Common.{◌≡◌, ◌≤◌, ◌⊎◌, ◌↔◌, inl, inr, ℕ, zero, suc, ◌+◌, Bool}
use Rattle.std.proofs.Common.{true, false, List, [], ◌∷◌, drop, take, reverse, slice_get, refl, ap}
use Rattle.std.proofs.Common.{sym, ◌∙◌, arith, Option, Some, None, if◌then◌else◌}
use Rattle.std.specs.Option.{option_map_or}
use Rattle.rec_events.proofs.TestOrder.{test_eq-self}
use Rattle.rec_events.specs.declared.instances.OwnedTestInstanceId.{OwnedTestInstanceId}
use Rattle.rec_events.specs.Tests.{test_eq}
use Rattle.rec_spans.specs.Positions.{Has}
use Rattle.rec_view.proofs.Attempts.{differ}
use Rattle.rec_view.proofs.Ends.{ahead, at-drop}
use Rattle.rec_view.proofs.TestPositions.{test_to}
use Rattle.rec_view.specs.Acts.Act.{Starts, Retries, Fails, Ends, Skips, RunEnds, Silent}
use Rattle.rec_view.specs.Acts.{Act}
use Rattle.rec_view.specs.AttemptPositions.{IsAttempt, starts_attempt}
use Rattle.rec_view.specs.Attempts.{is_retry, retries, starts_of}
use Rattle.rec_view.specs.Ends.{at}
use Rattle.rec_view.specs.Tests.{Place, is_running, is_start, opened, opens, settles, tests}

-- ---- further attempts

record IsRetry (t : OwnedTestInstanceId) (i : ℕ) (xs : List Act) (k : ℕ) : Type 0 where
  pub place : ℕ
  pub is : k ≡ i + place
  pub retry : at (is_retry t) xs place ≡ true
  pub still : (j : ℕ) → j ≤ place → at (settles t) xs j ≡ false

retry_to : (t : OwnedTestInstanceId) (i : ℕ) (xs : List Act) (k : ℕ) → Has (retries t i xs) k
    → IsRetry t i xs k
retry_to t i [] k has = absurd has
retry_to t i (x ∷ xs) k has =
    by (settles t x) (is_retry t x) refl refl has (retry_to t (suc i) xs k)
  where
    here : settles t x ≡ false → (j : ℕ) → j ≤ zero → at (settles t) (x ∷ xs) j ≡ false
    here e zero l = e
    here e (suc j) l = absurd (omega (arith, l))

    go : (m : ℕ) → settles t x ≡ false → ((j : ℕ) → j ≤ m → at (settles t) xs j ≡ false) → (j : ℕ)
        → j ≤ suc m → at (settles t) (x ∷ xs) j ≡ false
    go m e h zero l = e
    go m e h (suc j) l = h j (omega (arith, l))

    later : settles t x ≡ false → IsRetry t (suc i) xs k → IsRetry t i (x ∷ xs) k
    later e r = record {
      place = suc r.place;
      is = let is = r.is in omega (arith, is);
      retry = r.retry;
      still = go r.place e r.still;
    }

    by : (a b : Bool) → settles t x ≡ a → is_retry t x ≡ b
        → Has (if a then []
        else (if b then i ∷ retries t (suc i) xs else retries t (suc i) xs)) k
        → (Has (retries t (suc i) xs) k → IsRetry t (suc i) xs k) → IsRetry t i (x ∷ xs) k
    by true b e f has more = absurd has
    by false true e f (inl is) more = record {
      place = zero;
      is = omega (arith, is);
      retry = f;
      still = here e;
    }
    by false true e f (inr has) more = later e (more has)
    by false false e f has more = later e (more has)

retry_at : (t : OwnedTestInstanceId) (i : ℕ) (xs : List Act) (k m : ℕ) → k ≡ i + m
    → at (is_retry t) xs m ≡ true → ((j : ℕ) → j ≤ m → at (settles t) xs j ≡ false)
    → Has (retries t i xs) k
retry_at t i [] k m is r s = differ (sym r)
retry_at t i (x ∷ xs) k zero is r s = by (settles t x) (is_retry t x) (s zero (omega arith)) r
  where
    by : (a b : Bool) → a ≡ false → b ≡ true
        → Has (if a then []
        else (if b then i ∷ retries t (suc i) xs else retries t (suc i) xs)) k
    by true b e f = differ e
    by false true e f = inl (omega (arith, is))
    by false false e f = differ (sym f)
retry_at t i (x ∷ xs) k (suc m) is r s =
    by (settles t x) (is_retry t x) (s zero (omega arith))
    (retry_at t (suc i) xs k m (omega (arith, is)) r (λ j l. s (suc j) (omega (arith, l))))
  where
    by : (a b : Bool) → a ≡ false → Has (retries t (suc i) xs) k
        → Has (if a then []
        else (if b then i ∷ retries t (suc i) xs else retries t (suc i) xs)) k
    by true b e h = differ e
    by false true e h = inr h
    by false false e h = h

-- ---- all attempts

retry_starts : (t : OwnedTestInstanceId) (o : Option Act)
    → option_map_or (is_retry t) o false ≡ true
    → option_map_or (starts_attempt t) o false ≡ true
retry_starts t None h = h
retry_starts t (Some (Starts s)) h = differ (sym h)
retry_starts t (Some (Retries s)) h = h
retry_starts t (Some (Fails s)) h = h
retry_starts t (Some (Ends s v)) h = h
retry_starts t (Some (Skips s)) h = h
retry_starts t (Some (RunEnds names)) h = h
retry_starts t (Some Silent) h = h

start_retries : (t : OwnedTestInstanceId) (o : Option Act)
    → option_map_or (starts_attempt t) o false ≡ true
    → option_map_or (settles t) o false ≡ false → option_map_or (is_retry t) o false ≡ true
start_retries t None h k = h
start_retries t (Some (Starts s)) h k = differ (sym h ∙ k)
start_retries t (Some (Retries s)) h k = h
start_retries t (Some (Fails s)) h k = h
start_retries t (Some (Ends s v)) h k = h
start_retries t (Some (Skips s)) h k = h
start_retries t (Some (RunEnds names)) h k = h
start_retries t (Some Silent) h k = h

-- a start opens a test of its own name
opened_starts : (past : List Act) (act : Act) (t : OwnedTestInstanceId) → Has (opened past act) t
    → is_start act ≡ true → starts_attempt t act ≡ true
opened_starts past (Starts s) t (inl e) h = ap (test_eq s) (sym e) ∙ test_eq-self s
opened_starts past (Starts s) t (inr has) h = absurd has
opened_starts past (Retries s) t has h = by (is_running s past) has
  where
    by : (b : Bool) → Has (if b then [] else s ∷ []) t → test_eq s t ≡ true
    by true none = absurd none
    by false (inl e) = ap (test_eq s) (sym e) ∙ test_eq-self s
    by false (inr none) = absurd none
opened_starts past (Fails s) t has h = differ (sym h)
opened_starts past (Ends s v) t has h = differ (sym h)
opened_starts past (Skips s) t has h = differ (sym h)
opened_starts past (RunEnds names) t has h = differ (sym h)
opened_starts past Silent t has h = differ (sym h)

module _ (acts : List Act) (p : Place) where
  abbrev t : OwnedTestInstanceId
  t = p.test

  abbrev rest : List Act
  rest = drop (suc p.at) acts

  moved : (f : Act → Bool) (j m : ℕ) → j ≡ suc p.at + m → at f acts j ≡ at f rest m
  moved f j m is = ap (at f acts) is ∙ sym (at-drop f acts (suc p.at) m)

  opening : Has (tests acts) p → opens acts p ≡ true → at (starts_attempt t) acts p.at ≡ true
  opening stands e =
      let o = test_to acts p stands in
      ap (λ a. option_map_or (starts_attempt t) a false) o.stands
      ∙ opened_starts (reverse (take p.at acts)) o.act t o.opens
      (sym (ap (λ a. option_map_or is_start a false) o.stands) ∙ e)

  pub attempt_to : Has (tests acts) p → (k : ℕ) → Has (starts_of acts p) k → IsAttempt acts p k
  attempt_to stands k has = by (opens acts p) refl has
    where
      by : (b : Bool) → opens acts p ≡ b
          → Has (if b then p.at ∷ retries t (suc p.at) rest else []) k → IsAttempt acts p k
      by false e none = absurd none
      by true e (inl is) = record {
        opened = e;
        from = omega (arith, is);
        starts = ap (at (starts_attempt t) acts) (sym is) ∙ opening stands e;
        still = λ j l u. absurd (omega (arith, is, l, u));
      }
      by true e (inr later) =
          let r = retry_to t (suc p.at) rest k later in
          let is = r.is in
          record {
            opened = e;
            from = omega (arith, is);
            starts = moved (starts_attempt t) k r.place is
                ∙ retry_starts t (slice_get rest r.place) r.retry;
            still = λ j l u. let d = ahead (suc p.at) j (omega (arith, l)) in let n = d.1 in
                moved (settles t) j d.0 n ∙ r.still d.0 (omega (arith, n, is, u));
          }

  pub attempt_from : (k : ℕ) → IsAttempt acts p k → Has (starts_of acts p) k
  attempt_from k a = by (opens acts p) a.opened
    where
      split : (x y : ℕ) → x ≤ y → (x ≡ y) ⊎ (suc x ≤ y)
      split x y l = grind arith

      further : suc p.at ≤ k → Has (retries t (suc p.at) rest) k
      further l =
          let d = ahead (suc p.at) k l in
          let is = d.1 in
          retry_at t (suc p.at) rest k d.0 is
          (sym (moved (is_retry t) k d.0 is)
          ∙ start_retries t (slice_get acts k) a.starts
          (a.still k (omega (arith, l)) (omega arith)))
          (λ j u. sym (moved (settles t) (suc p.at + j) j refl)
          ∙ a.still (suc p.at + j) (omega arith) (omega (arith, u, is)))

      one : (p.at ≡ k) ⊎ (suc p.at ≤ k) → Has (p.at ∷ retries t (suc p.at) rest) k
      one (inl e) = inl e
      one (inr l) = inr (further l)

      by : (b : Bool) → b ≡ true → Has (if b then p.at ∷ retries t (suc p.at) rest else []) k
      by true e = one (split p.at k a.from)
      by false e = differ (sym e)

  pub attempts_are : Has (tests acts) p → (k : ℕ) → Has (starts_of acts p) k ↔ IsAttempt acts p k
  attempts_are stands k = ((λ has. attempt_to stands k has), (λ a. attempt_from k a))
