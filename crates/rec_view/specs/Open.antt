-- The tests that have started, and that no later event starts anew or ends.
use Rattle.std.specs.Prelude.{◌≡◌, ◌&&◌, Bool, not, List}
use Rattle.std.specs.Prelude.{filter, reverse, Option, Some, is_some}
use Rattle.std.specs.Prelude.{option_to_list, if◌then◌else◌}
use Rattle.rec_events.specs.declared.instances.OwnedTestInstanceId.{OwnedTestInstanceId}
use Rattle.rec_events.specs.Tests.{test_eq}
use Rattle.rec_view.specs.Acts.{Act}
use Rattle.rec_view.specs.declared.verdicts.Verdict.{Verdict}
use Rattle.rec_view.specs.Tests.{Place, by_fate, fate, is_running, opens, settles, tests}

abbrev pub is_open : List Act → Place → Bool
is_open acts p = opens acts p && not (is_some (fate acts p))

abbrev pub open_of : OwnedTestInstanceId → List Act → List Place
open_of t acts = filter (λ p. test_eq p.test t && is_open acts p) (tests acts)

-- at most one test of a name is open, and one is exactly where the last start or end of the name is
-- a start
pub record OneOpen (acts : List Act) (t : OwnedTestInstanceId) : Type 0 where
  pub place : Option Place
  pub all : open_of t acts ≡ option_to_list place
  pub runs : is_running t (reverse acts) ≡ is_some place

-- the verdict of a test with one event more, by whether it was open
abbrev pub verdict_after : Act → Bool → Place → Verdict → Verdict
verdict_after act was_open p before =
    if was_open && settles p.test act then by_fate (Some act) else before
