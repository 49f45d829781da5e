-- Which results count as a success, and what is said of a flaky one.
use Rattle.std.specs.Fmt.{decimal}
use Rattle.std.specs.Prelude.{ℕ, List, ◌++◌, codes, Option, Some, None, Bool, true, false}
use Rattle.rec_events.specs.declared.results.ExecutionResultDescription.TheVariants.{
  Pass,
  Leak,
  Fail,
  ExecFail,
  Timeout,
}
use Rattle.rec_events.specs.declared.results.ExecutionResultDescription.{ExecutionResultDescription}
use Rattle.rec_events.specs.declared.results.FlakyResult.TheVariants as flaky
use Rattle.rec_events.specs.declared.results.FlakyResult.{FlakyResult}
use Rattle.rec_events.specs.declared.results.LeakTimeoutResult.TheVariants as leak
use Rattle.rec_events.specs.declared.results.SlowTimeoutResult.TheVariants as slow

abbrev pub succeeded : ExecutionResultDescription → Bool
succeeded Pass = true
succeeded (Leak leak.Pass) = true
succeeded (Timeout slow.Pass) = true
succeeded (Leak leak.Fail) = false
succeeded (Timeout slow.Fail) = false
succeeded (Fail failure leaked) = false
succeeded ExecFail = false

-- what is said of a test that failed at first and passed at last, where it counts as failed
abbrev pub flaky_text : FlakyResult → ℕ → ℕ → Option (List ℕ)
flaky_text flaky.Pass attempt total = None
flaky_text flaky.Fail attempt total =
    Some (codes "test passed on attempt " ++ (decimal attempt
    ++ (codes "/" ++ (decimal total ++ codes " but is configured to fail when flaky"))))
