-- What a view says of each test.
use Rattle.std.specs.Prelude.{List, map}
use Rattle.rec_view.specs.Acts.{Act}
use Rattle.rec_view.specs.Attempts.{attempts}
use Rattle.rec_view.specs.declared.test_views.Attempt.{Attempt}
use Rattle.rec_view.specs.declared.test_views.TestView.{TestView}
use Rattle.rec_view.specs.declared.verdicts.Verdict.{Verdict}
use Rattle.rec_view.specs.Tests.{Place, place, tests, verdict}

-- a test with its verdict and its attempts
pub record Row : Type 0 where
  pub place : Place
  pub verdict : Verdict
  pub attempts : List Attempt

-- what a history says of a test, and of each of its tests, in order
abbrev pub row : List Act → Place → Row
row acts p = record { place = p; verdict = verdict acts p; attempts = attempts acts p }

abbrev pub rows_of : List Act → List Row
rows_of acts = map (row acts) (tests acts)

-- what a view says of these tests
abbrev pub row_of : TestView → Row
row_of x = record { place = place x.at x.test; verdict = x.verdict; attempts = x.attempts.items }

abbrev pub rows : List TestView → List Row
rows xs = map row_of xs
