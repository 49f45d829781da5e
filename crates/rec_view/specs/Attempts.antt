-- The attempts of a test, and where each ends. They are there of every history.
use Rattle.std.specs.Prelude.{ℕ, suc, Bool, false, List, [], ◌∷◌}
use Rattle.std.specs.Prelude.{drop, map, Option, if◌then◌else◌}
use Rattle.rec_events.specs.declared.instances.OwnedTestInstanceId.{OwnedTestInstanceId}
use Rattle.rec_events.specs.Tests.{test_eq}
use Rattle.rec_view.specs.Acts.Act.{Starts, Retries, Fails, Ends}
use Rattle.rec_view.specs.Acts.{Act}
use Rattle.rec_view.specs.declared.test_views.Attempt.{Attempt}
use Rattle.rec_view.specs.Ends.{first_from}
use Rattle.rec_view.specs.Tests.{Place, opens, settles}

-- ---- what an event says of an attempt

-- a further attempt of the test starts
abbrev pub is_retry : OwnedTestInstanceId → Act → Bool
is_retry t (Retries test) = test_eq test t
is_retry t _ = false

-- the open attempt of the test stops, or another one starts
abbrev pub cuts : OwnedTestInstanceId → Act → Bool
cuts t (Starts test) = test_eq test t
cuts t (Retries test) = test_eq test t
cuts t (Fails test) = test_eq test t
cuts t (Ends test verdict) = test_eq test t
cuts t _ = false

-- ---- the attempts

-- where an attempt of a name that stands at k ends
abbrev pub end_of : List Act → OwnedTestInstanceId → ℕ → Option ℕ
end_of acts t k = first_from (cuts t) (suc k) (drop (suc k) acts)

-- where further attempts start, up to the event by which the test starts anew or ends;
-- these acts stand from i on
abbrev pub retries : OwnedTestInstanceId → ℕ → List Act → List ℕ
retries t i [] = []
retries t i (act ∷ acts) =
    if settles t act then []
    else (if is_retry t act then i ∷ retries t (suc i) acts else retries t (suc i) acts)

-- where the attempts of a test start
abbrev pub starts_of : List Act → Place → List ℕ
starts_of acts p =
    if opens acts p then p.at ∷ retries p.test (suc p.at) (drop (suc p.at) acts) else []

abbrev pub attempt : List Act → OwnedTestInstanceId → ℕ → Attempt
attempt acts t k = record { from = k; to = end_of acts t k }

-- the attempts of a test, in order
abbrev pub attempts : List Act → Place → List Attempt
attempts acts p = map (attempt acts p.test) (starts_of acts p)
