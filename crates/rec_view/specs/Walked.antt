-- What is kept of the tests of a history after its events so far.
use Rattle.std.specs.List.{filter, list_any}
use Rattle.std.specs.Option.{option_or}
use Rattle.std.specs.Prelude.{◌≡◌, ◌||◌, not, ℕ, zero, suc, Bool, true, false, List, [], ◌∷◌, ◌++◌}
use Rattle.std.specs.Prelude.{length, map, reverse, slice_get, Option, Some, None}
use Rattle.std.specs.Prelude.{option_and_then, if◌then◌else◌}
use Rattle.rec_events.specs.declared.instances.OwnedTestInstanceId.{OwnedTestInstanceId}
use Rattle.rec_events.specs.Tests.{test_eq}
use Rattle.rec_rerun.specs.Planned.{is_seen}
use Rattle.rec_rerun.specs.Plans.{firsts}
use Rattle.rec_spans.specs.Tied.{slot_of}
use Rattle.rec_view.specs.Acts.Act.{Starts, Retries, Fails, Ends, Skips, RunEnds, Silent}
use Rattle.rec_view.specs.Acts.{Act}
use Rattle.rec_view.specs.declared.test_views.Attempt.{Attempt}
use Rattle.rec_view.specs.declared.verdicts.Verdict.{Verdict}
use Rattle.rec_view.specs.declared.walk.Walk.{Walk}
use Rattle.rec_view.specs.Open.{is_open}
use Rattle.rec_view.specs.Rows.{Row, rows, rows_of}
use Rattle.rec_view.specs.Tests.{Place, has_stood, is_running, is_start, place, tells, tests}
use Rattle.rec_view.specs.Tests.{verdict_by}

-- the test of a name that is open stands at this place of the list, or none is open
abbrev pub OpenAt : List Act → OwnedTestInstanceId → Option ℕ → Type 0
OpenAt acts t None = is_running t (reverse acts) ≡ false
OpenAt acts t (Some i) =
    (is_running t (reverse acts) ≡ true)
    × ((p : Place) × (slice_get (tests acts) i ≡ Some p) × (p.test ≡ t) × (is_open acts p ≡ true))

pub record HasWalked (acts : List Act) (w : Walk) : Type 0 where
  pub number : w.number ≡ length acts
  pub rows : rows w.tests.items ≡ rows_of acts
  pub running : (t : OwnedTestInstanceId) → OpenAt acts t (slot_of w.running.entries t)
  pub told : (t : OwnedTestInstanceId) → is_seen w.told t ≡ has_stood t (reverse acts)

-- ---- what an event does to the row of an open test

-- an attempt that starts at n, of which no end is known
abbrev pub begun_at : ℕ → Attempt
begun_at n = record { from = n; to = None }

-- the last attempt ends at n, if it has no end
abbrev pub close_last : ℕ → List Attempt → List Attempt
close_last n [] = []
close_last n (a ∷ []) = record { from = a.from; to = option_or a.to (Some n) } ∷ []
close_last n (a ∷ b ∷ more) = a ∷ close_last n (b ∷ more)

abbrev pub closed : ℕ → Row → Row
closed n r =
    record { place = r.place; verdict = r.verdict; attempts = close_last n r.attempts }

-- and another one starts there
abbrev pub retried : ℕ → Row → Row
retried n r = record {
  place = r.place;
  verdict = r.verdict;
  attempts = close_last n r.attempts ++ begun_at n ∷ [];
}

-- and the test ends so
abbrev pub ended : Verdict → ℕ → Row → Row
ended v n r = record { place = r.place; verdict = v; attempts = close_last n r.attempts }

abbrev pub unchanged : ℕ → Row → Row
unchanged n r = r

abbrev pub changed : Act → ℕ → Row → Row
changed (Starts t) = closed
changed (Retries t) = retried
changed (Fails t) = closed
changed (Ends t v) = ended v
changed _ = unchanged

-- ---- one event more

-- the row at a place changes, if there is a place
abbrev pub touch_at : ℕ → (Row → Row) → List Row → List Row
touch_at i f [] = []
touch_at zero f (r ∷ rs) = f r ∷ rs
touch_at (suc i) f (r ∷ rs) = r ∷ touch_at i f rs

abbrev pub touched : Option ℕ → (Row → Row) → List Row → List Row
touched None f rs = rs
touched (Some i) f rs = touch_at i f rs

-- the test whose open attempt an event cuts
abbrev pub cut_test : Act → Option OwnedTestInstanceId
cut_test (Starts t) = Some t
cut_test (Retries t) = Some t
cut_test (Fails t) = Some t
cut_test (Ends t v) = Some t
cut_test _ = None

-- the row of a test that an event opens
abbrev pub made : Verdict → List Attempt → ℕ → OwnedTestInstanceId → Row
made v attempts n t = record { place = place n t; verdict = v; attempts = attempts }

abbrev pub fresh : Act → ℕ → OwnedTestInstanceId → Row
fresh act n =
    made (verdict_by (Some act) None) (if is_start act then begun_at n ∷ [] else []) n

abbrev pub unless_some : Option ℕ → OwnedTestInstanceId → List OwnedTestInstanceId
unless_some None t = t ∷ []
unless_some (Some i) t = []

-- the tests that an event opens, by where the tests are that run, and of which tests was told
abbrev pub opens_by : Act → (OwnedTestInstanceId → Option ℕ) → (OwnedTestInstanceId → Bool)
    → List OwnedTestInstanceId
opens_by (Starts t) run told = t ∷ []
opens_by (Retries t) run told = unless_some (run t) t
opens_by (Ends t v) run told = unless_some (run t) t
opens_by (Skips t) run told = t ∷ []
opens_by (RunEnds names) run told = filter (λ t. not (told t)) (firsts names)
opens_by _ run told = []

abbrev pub next_rows : Act → (OwnedTestInstanceId → Option ℕ) → (OwnedTestInstanceId → Bool) → ℕ
    → List Row → List Row
next_rows act run told n rs =
    touched (option_and_then run (cut_test act)) (changed act n) rs
    ++ map (fresh act n) (opens_by act run told)

abbrev pub or_else : Option ℕ → Option ℕ → Option ℕ
or_else None j = j
or_else (Some i) j = Some i

abbrev pub next_running : Act → (OwnedTestInstanceId → Option ℕ) → ℕ → OwnedTestInstanceId
    → Option ℕ
next_running (Starts t) run len s = if test_eq t s then Some len else run s
next_running (Retries t) run len s = if test_eq t s then or_else (run t) (Some len) else run s
next_running (Ends t v) run len s = if test_eq t s then None else run s
next_running (Skips t) run len s = run s
next_running (Fails t) run len s = run s
next_running (RunEnds names) run len s = run s
next_running Silent run len s = run s

abbrev pub is_run_end : Act → Bool
is_run_end (RunEnds names) = true
is_run_end _ = false

-- ---- what the parts of a step do

-- a row is put behind the others
pub record Pushes (old new : Walk) (r : Row) : Type 0 where
  pub rows : rows new.tests.items ≡ rows old.tests.items ++ r ∷ []
  pub number : new.number ≡ old.number
  pub running : new.running ≡ old.running
  pub told : new.told ≡ old.told

-- the row at a place changes, if there is a place
pub record Touches (old new : Walk) (place : Option ℕ) (f : Row → Row) : Type 0 where
  pub rows : rows new.tests.items ≡ touched place f (rows old.tests.items)
  pub number : new.number ≡ old.number
  pub running : new.running ≡ old.running
  pub told : new.told ≡ old.told

-- a test is put behind the others by its start, and runs
pub record Opens (old new : Walk) (t : OwnedTestInstanceId) : Type 0 where
  pub rows : rows new.tests.items
      ≡ rows old.tests.items ++ fresh (Starts t) old.number t ∷ []
  pub number : new.number ≡ old.number
  pub running : (s : OwnedTestInstanceId) → slot_of new.running.entries s
      ≡ (if test_eq t s then Some (length old.tests.items) else slot_of old.running.entries s)
  pub told : new.told ≡ old.told

-- the tests that a run's end names so far are told
pub record Names (old new : Walk) (names : List OwnedTestInstanceId) : Type 0 where
  pub rows : rows new.tests.items ≡ rows old.tests.items
      ++ map (fresh (RunEnds []) old.number)
      (filter (λ t. not (is_seen old.told t)) (firsts names))
  pub number : new.number ≡ old.number
  pub running : new.running ≡ old.running
  pub told : (t : OwnedTestInstanceId)
      → is_seen new.told t ≡ (is_seen old.told t || list_any (λ s. test_eq s t) names)

-- an event is taken, but isn't counted, and what it tells isn't noted
pub record Takes (act : Act) (old new : Walk) : Type 0 where
  pub rows : rows new.tests.items
      ≡ next_rows act (slot_of old.running.entries) (is_seen old.told) old.number
      (rows old.tests.items)
  pub number : new.number ≡ old.number
  pub running : (t : OwnedTestInstanceId) → slot_of new.running.entries t
      ≡ next_running act (slot_of old.running.entries) (length old.tests.items) t
  pub told : (t : OwnedTestInstanceId)
      → is_seen new.told t ≡ (if is_run_end act then false else is_seen old.told t)

-- what an event tells is noted
pub record Tells (act : Act) (old new : Walk) : Type 0 where
  pub tests : new.tests ≡ old.tests
  pub number : new.number ≡ old.number
  pub running : new.running ≡ old.running
  pub told : (t : OwnedTestInstanceId)
      → is_seen new.told t ≡ (tells t act || is_seen old.told t)

pub record Notes (old new : Walk) (test : OwnedTestInstanceId) : Type 0 where
  pub tests : new.tests ≡ old.tests
  pub number : new.number ≡ old.number
  pub running : new.running ≡ old.running
  pub told : (t : OwnedTestInstanceId)
      → is_seen new.told t ≡ (test_eq test t || is_seen old.told t)
