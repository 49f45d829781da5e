-- The attempts of a test by positions.
use Rattle.std.specs.Prelude.{◌≡◌, ◌<◌, ◌≤◌, ℕ, Bool, true, false, List}
use Rattle.rec_events.specs.declared.instances.OwnedTestInstanceId.{OwnedTestInstanceId}
use Rattle.rec_events.specs.Tests.{test_eq}
use Rattle.rec_spans.specs.Positions.{Has}
use Rattle.rec_view.specs.Acts.Act.{Starts, Retries}
use Rattle.rec_view.specs.Acts.{Act}
use Rattle.rec_view.specs.Attempts.{starts_of}
use Rattle.rec_view.specs.Ends.{at}
use Rattle.rec_view.specs.Tests.{Place, opens, settles, tests}

-- an attempt of the test starts, its first one or a further one
abbrev pub starts_attempt : OwnedTestInstanceId → Act → Bool
starts_attempt t (Starts test) = test_eq test t
starts_attempt t (Retries test) = test_eq test t
starts_attempt t _ = false

-- an attempt of a test starts at k: a start opens the test, an attempt of its name starts at k, and
-- after the start of the test no event up to k starts the test anew or ends it
pub record IsAttempt (acts : List Act) (p : Place) (k : ℕ) : Type 0 where
  pub opened : opens acts p ≡ true
  pub from : p.at ≤ k
  pub starts : at (starts_attempt p.test) acts k ≡ true
  pub still : (j : ℕ) → p.at < j → j ≤ k → at (settles p.test) acts j ≡ false

-- an attempt that starts at k is one of exactly one test, which has this name
pub record OfOneTest (acts : List Act) (t : OwnedTestInstanceId) (k : ℕ) : Type 0 where
  pub test : Place
  pub stands : Has (tests acts) test
  pub named : test.test ≡ t
  pub its : Has (starts_of acts test) k
  pub only : (q : Place) → Has (tests acts) q → Has (starts_of acts q) k → q ≡ test
