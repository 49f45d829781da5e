-- How many tests the ends of runs count as not seen, and don't name.
use Rattle.std.specs.Prelude.{◌+◌, ◌-◌, ℕ, List, [], ◌∷◌, length, Option, Some, None}
use Rattle.rec_events.specs.declared.events.CoreEventKind.TheVariants.{RunFinished}
use Rattle.rec_events.specs.declared.events.CoreEventKind.{CoreEventKind}
use Rattle.rec_events.specs.declared.events.TestEventKindSummary.TheVariants.{Core, Output}
use Rattle.rec_events.specs.declared.events.TestEventKindSummary.{TestEventKindSummary}
use Rattle.rec_events.specs.declared.events.TestEventSummary.{TestEventSummary}
use Rattle.rec_events.specs.declared.run_ends.TestsNotSeenSummary.{TestsNotSeenSummary}

abbrev pub unnamed_in : Option TestsNotSeenSummary → ℕ
unnamed_in None = 0
unnamed_in (Some summary) = summary.total_not_seen - length summary.not_seen

abbrev pub core_unnamed : CoreEventKind → ℕ
core_unnamed (RunFinished run_id start_time elapsed run_stats outstanding) = unnamed_in outstanding
core_unnamed _ = 0

module _ {S O : Type 0} where
  abbrev pub kind_unnamed : TestEventKindSummary S O → ℕ
  kind_unnamed (Core kind) = core_unnamed kind
  kind_unnamed (Output kind) = 0

  -- in all
  abbrev pub unnamed : List (TestEventSummary S O) → ℕ
  unnamed [] = 0
  unnamed (event ∷ events) = kind_unnamed event.kind + unnamed events
