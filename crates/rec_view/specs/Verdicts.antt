-- What became of a test that ended.
use Rattle.std.specs.Prelude.{◌==◌, Bool, true, false, length, if◌then◌else◌}
use Rattle.rec_events.specs.declared.statuses.ExecutionStatuses.{ExecutionStatuses}
use Rattle.rec_rerun.specs.Acts.{pass}
use Rattle.rec_view.specs.declared.verdicts.Verdict.TheVariants.{Passed, Flaky, Failed}
use Rattle.rec_view.specs.declared.verdicts.Verdict.{Verdict}

module _ {S O : Type 0} where
  -- a test that has passed as a rerun judges it did so at its only attempt, or is flaky
  abbrev pub verdict_of_end : ExecutionStatuses S O → Verdict
  verdict_of_end s = if pass s then (if length s.statuses == 1 then Passed else Flaky) else Failed

abbrev pub is_passing : Verdict → Bool
is_passing Passed = true
is_passing Flaky = true
is_passing _ = false
