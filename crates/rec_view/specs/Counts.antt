-- How many tests have each verdict.
use Rattle.std.specs.List.{count_by}
use Rattle.std.specs.Prelude.{◌≡◌, ◌+◌, ℕ, Bool, true, false, List, length}
use Rattle.rec_view.specs.declared.counts.Counts.{Counts}
use Rattle.rec_view.specs.declared.verdicts.Verdict.TheVariants.{Passed, Flaky, Failed, Skipped}
use Rattle.rec_view.specs.declared.verdicts.Verdict.TheVariants.{Unfinished, NotStarted}
use Rattle.rec_view.specs.declared.verdicts.Verdict.{Verdict}

abbrev pub is : Verdict → Verdict → Bool
is Passed Passed = true
is Flaky Flaky = true
is Failed Failed = true
is Skipped Skipped = true
is Unfinished Unfinished = true
is NotStarted NotStarted = true
is _ _ = false

abbrev pub count : Verdict → List Verdict → ℕ
count v vs = count_by (is v) vs

-- the numbers of the verdicts, which add up
pub record AreCounts (vs : List Verdict) (c : Counts) : Type 0 where
  pub passed : c.passed ≡ count Passed vs
  pub flaky : c.flaky ≡ count Flaky vs
  pub failed : c.failed ≡ count Failed vs
  pub skipped : c.skipped ≡ count Skipped vs
  pub unfinished : c.unfinished ≡ count Unfinished vs
  pub not_started : c.not_started ≡ count NotStarted vs
  pub sum : c.passed + c.flaky + c.failed + c.skipped + c.unfinished + c.not_started ≡ length vs
