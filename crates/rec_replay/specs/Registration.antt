-- Which tests are registered.
use Rattle.std.specs.BTreeSet.{BTreeSet}
use Rattle.std.specs.List.{list_any}
use Rattle.std.specs.Prelude.{Bool}
use Rattle.rec_events.specs.declared.instances.OwnedTestInstanceId.{OwnedTestInstanceId}
use Rattle.rec_events.specs.Tests.{test_eq}

abbrev pub is_registered : BTreeSet OwnedTestInstanceId → OwnedTestInstanceId → Bool
is_registered tests t = list_any (test_eq t) tests.keys
