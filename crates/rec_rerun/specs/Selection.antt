-- Which tests are to run again after a run, and which have passed.
use Rattle.std.specs.List.{AllByRecursion}
use Rattle.std.specs.Prelude.{◌≡◌, ℕ, ◌&&◌, Bool, true, false, not, is_some}
use Rattle.std.specs.Prelude.{List, Option, Some, None, if◌then◌else◌}
use Rattle.rec_events.specs.declared.events.TestEventSummary.{TestEventSummary}
use Rattle.rec_events.specs.declared.instances.OwnedTestInstanceId.{OwnedTestInstanceId}
use Rattle.rec_format.specs.declared.rerun.RerunInfo.{RerunInfo}
use Rattle.rec_format.specs.declared.rerun.RerunRootInfo.{RerunRootInfo}
use Rattle.rec_format.specs.declared.scope.RecordedBuildScope.{RecordedBuildScope}
use Rattle.rec_format.specs.declared.suites.RerunTestSuiteInfo.{RerunTestSuiteInfo}
use Rattle.rec_format.specs.Suites.{SuitesRise}
use Rattle.rec_rerun.specs.declared.standings.Standing.{Standing}
use Rattle.rec_rerun.specs.Standings.{LogEvent, Tests, acts_of, at, standing_of}
use Rattle.rec_rerun.specs.Suites.{IsFull, has_outstanding, has_passing, stands}

-- what a rerun knows of a test: that it had passed, or that it hadn't; or nothing
abbrev pub known_in : Option RerunInfo → OwnedTestInstanceId → Option Bool
known_in None t = None
known_in (Some info) t =
    if has_passing info.test_suites t then Some true
    else (if has_outstanding info.test_suites t then Some false else None)

-- the root of the parent, or this run
abbrev pub root_of : List ℕ → RecordedBuildScope → Option RerunInfo → RerunRootInfo
root_of run_id scope None = record { run_id = run_id; build_scope = scope }
root_of run_id scope (Some info) = info.root_info

module _ {S O : Type 0} (events : List (TestEventSummary S O)) (parent : Option RerunInfo) where
  abbrev pub standing_in : OwnedTestInstanceId → Option Standing
  standing_in t = standing_of (acts_of events) (known_in parent t) t

  -- the log starts it, or the parent has it
  abbrev pub is_recorded : OwnedTestInstanceId → Bool
  is_recorded t = is_some (standing_in t)

  abbrev pub is_passing : OwnedTestInstanceId → Bool
  is_passing t = stands true (standing_in t)

  -- each recorded test stands in one of the sets, once, under its binary, and no other test does
  pub record IsSelection (suites : List RerunTestSuiteInfo) : Type 0 where
    pub rise : SuitesRise suites
    pub full : AllByRecursion IsFull suites
    pub passing : (t : OwnedTestInstanceId) → has_passing suites t ≡ is_passing t
    pub outstanding : (t : OwnedTestInstanceId)
        → has_outstanding suites t ≡ (is_recorded t && not (is_passing t))

-- each test stands as these events and the parent say
abbrev pub HasTaken : Option RerunInfo → List LogEvent → Tests → Type 0
HasTaken parent events tests = (t : OwnedTestInstanceId) → at tests t ≡ standing_in events parent t
