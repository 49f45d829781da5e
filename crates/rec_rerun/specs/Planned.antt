-- What is planned of the tests of a list so far.
use Rattle.std.specs.BTreeSet.{BTreeSet}
use Rattle.std.specs.List.{filter, list_any}
use Rattle.std.specs.Prelude.{◌≡◌, Bool, not, List}
use Rattle.rec_events.specs.declared.instances.OwnedTestInstanceId.{OwnedTestInstanceId}
use Rattle.rec_events.specs.Tests.{test_eq}
use Rattle.rec_format.specs.declared.rerun.RerunInfo.{RerunInfo}
use Rattle.rec_rerun.specs.declared.plan.Planned.{Planned}
use Rattle.rec_rerun.specs.Plans.{firsts, is_in}
use Rattle.rec_rerun.specs.Suites.{has_passing}

abbrev pub is_seen : BTreeSet OwnedTestInstanceId → OwnedTestInstanceId → Bool
is_seen seen t = list_any (test_eq t) seen.keys

-- these tests were planned, one after the other
pub record HasPlanned (info : RerunInfo) (tests : List OwnedTestInstanceId)
    (planned : Planned) : Type 0 where
  pub run : planned.run.items ≡ filter (λ t. not (has_passing info.test_suites t)) (firsts tests)
  pub skip : planned.skip.items ≡ filter (has_passing info.test_suites) (firsts tests)
  pub seen : (t : OwnedTestInstanceId) → is_seen planned.seen t ≡ is_in tests t
