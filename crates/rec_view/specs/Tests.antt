-- The tests of a history of acts, each at the position of the event that opens it. A past is the
-- list of the acts so far, the newest first.
use Rattle.std.specs.List.{find}
use Rattle.std.specs.Option.{option_map_or}
use Rattle.std.specs.Prelude.{ℕ, suc, ◌||◌, Bool, true, false, not, List, [], ◌∷◌, ◌++◌, length}
use Rattle.std.specs.Prelude.{map, filter, drop, slice_get, Option, Some, None, if◌then◌else◌}
use Rattle.rec_events.specs.declared.instances.OwnedTestInstanceId.{OwnedTestInstanceId}
use Rattle.rec_events.specs.Tests.{test_eq}
use Rattle.rec_rerun.specs.Plans.{firsts}
use Rattle.rec_view.specs.Acts.Act.{Starts, Retries, Fails, Ends, Skips, RunEnds, Silent}
use Rattle.rec_view.specs.Acts.{Act}
use Rattle.rec_view.specs.declared.verdicts.Verdict.TheVariants.{Skipped, Unfinished, NotStarted}
use Rattle.rec_view.specs.declared.verdicts.Verdict.{Verdict}

-- ---- what an event says of a test

-- an attempt of it starts, or it ends
abbrev pub turns : OwnedTestInstanceId → Act → Bool
turns t (Starts test) = test_eq test t
turns t (Retries test) = test_eq test t
turns t (Ends test verdict) = test_eq test t
turns t _ = false

abbrev pub is_start : Act → Bool
is_start (Starts test) = true
is_start (Retries test) = true
is_start _ = false

-- it starts anew, or ends
abbrev pub settles : OwnedTestInstanceId → Act → Bool
settles t (Starts test) = test_eq test t
settles t (Ends test verdict) = test_eq test t
settles t _ = false

-- it starts, ends or is skipped
abbrev pub tells : OwnedTestInstanceId → Act → Bool
tells t (Starts test) = test_eq test t
tells t (Retries test) = test_eq test t
tells t (Ends test verdict) = test_eq test t
tells t (Skips test) = test_eq test t
tells t _ = false

-- ---- after a past

-- the last start or end of the test is a start
abbrev pub is_running : OwnedTestInstanceId → List Act → Bool
is_running t past = option_map_or is_start (find (turns t) past) false

-- since the last end of a run an event tells of the test
abbrev pub has_stood : OwnedTestInstanceId → List Act → Bool
has_stood t [] = false
has_stood t (RunEnds names ∷ past) = false
has_stood t (act ∷ past) = tells t act || has_stood t past

-- the tests that an event opens: a start opens one; a further attempt, or an end, does where none
-- of the name runs; a skip does; and the end
-- of a run opens those that it didn't see and of which nothing was told
abbrev pub opened : List Act → Act → List OwnedTestInstanceId
opened past (Starts test) = test ∷ []
opened past (Retries test) = if is_running test past then [] else test ∷ []
opened past (Ends test verdict) = if is_running test past then [] else test ∷ []
opened past (Skips test) = test ∷ []
opened past (RunEnds names) = filter (λ t. not (has_stood t past)) (firsts names)
opened past (Fails test) = []
opened past Silent = []

-- ---- the tests

-- a test, and the position of the event that opens it
pub record Place : Type 0 where
  pub at : ℕ
  pub test : OwnedTestInstanceId

abbrev pub place : ℕ → OwnedTestInstanceId → Place
place i t = record { at = i; test = t }

abbrev pub tests_after : List Act → List Act → List Place
tests_after past [] = []
tests_after past (act ∷ acts) =
    map (place (length past)) (opened past act) ++ tests_after (act ∷ past) acts

-- the tests of a history, in order
abbrev pub tests : List Act → List Place
tests acts = tests_after [] acts

-- an attempt of it starts where it is opened
abbrev pub opens : List Act → Place → Bool
opens acts p = option_map_or is_start (slice_get acts p.at) false

-- ---- verdicts

-- the first later event by which a test starts anew or ends
abbrev pub fate : List Act → Place → Option Act
fate acts p = find (settles p.test) (drop (suc p.at) acts)

abbrev pub by_fate : Option Act → Verdict
by_fate None = Unfinished
by_fate (Some (Ends test verdict)) = verdict
by_fate (Some _) = Unfinished

-- what became of a test that this event opens, and which ends by that one
abbrev pub verdict_by : Option Act → Option Act → Verdict
verdict_by (Some (Skips test)) end = Skipped
verdict_by (Some (RunEnds names)) end = NotStarted
verdict_by (Some (Ends test verdict)) end = verdict
verdict_by (Some (Starts test)) end = by_fate end
verdict_by (Some (Retries test)) end = by_fate end
verdict_by _ end = Unfinished

abbrev pub verdict : List Act → Place → Verdict
verdict acts p = verdict_by (slice_get acts p.at) (fate acts p)

abbrev pub verdicts : List Act → List Verdict
verdicts acts = map (verdict acts) (tests acts)
