-- A verdict says of a test what a rerun does.
use Rattle.std.proofs.Common.{◌≡◌, Bool, true, false, length, refl, if◌then◌else◌}
use Rattle.std.specs.Prelude.{◌==◌}
use Rattle.rec_events.specs.declared.statuses.ExecutionStatuses.{ExecutionStatuses}
use Rattle.rec_rerun.specs.Acts.{pass}
use Rattle.rec_view.specs.declared.verdicts.Verdict.TheVariants.{Passed, Flaky, Failed}
use Rattle.rec_view.specs.Verdicts.{is_passing, verdict_of_end}

by : (passed one : Bool) → passed
    ≡ is_passing (if passed then (if one then Passed else Flaky) else Failed)
by false one = refl
by true true = refl
by true false = refl

pub passing : {S O : Type 0} (s : ExecutionStatuses S O) → pass s ≡ is_passing (verdict_of_end s)
passing s = by (pass s) (length s.statuses == 1)
