-- How a test stands after a run: what its last start and its last end in the log say,
-- or else what was known of it before.
use Rattle.std.specs.BTreeMap.{BTreeMap, get_by_text}
use Rattle.std.specs.declared.alloc.Global.{Global}
use Rattle.std.specs.Prelude.{◌≡◌, ℕ, Bool, false, ◌&&◌, nat_lt, List, map, slice_get}
use Rattle.std.specs.Prelude.{Option, Some, None, option_map, if◌then◌else◌, String}
use Rattle.rec_events.specs.declared.events.TestEventSummary.{TestEventSummary}
use Rattle.rec_events.specs.declared.instances.OwnedTestInstanceId.{OwnedTestInstanceId}
use Rattle.rec_events.specs.declared.outputs.RecordingSpec.{RecordingSpec}
use Rattle.rec_events.specs.declared.outputs.ZipStoreOutputDescription.{ZipStoreOutputDescription}
use Rattle.rec_events.specs.Tests.{test_eq}
use Rattle.rec_rerun.specs.Acts.Act.{Starts, Ends, Silent}
use Rattle.rec_rerun.specs.Acts.{Act, act_of}
use Rattle.rec_rerun.specs.declared.standings.Standing.TheVariants.{Known, Started}
use Rattle.rec_rerun.specs.declared.standings.Standing.{Standing}
use Rattle.rec_rerun.specs.Places.{last_at}

-- an event of a log
abbrev pub LogEvent : Type 0
LogEvent = TestEventSummary RecordingSpec ZipStoreOutputDescription

-- what each event of a log is
abbrev pub acts_of : {S O : Type 0} → List (TestEventSummary S O) → List Act
acts_of events = map (λ e. act_of e.kind) events

abbrev pub starts : OwnedTestInstanceId → Act → Bool
starts t (Starts test) = test_eq test t
starts t (Ends test passed) = false
starts t Silent = false

abbrev pub ends : OwnedTestInstanceId → Act → Bool
ends t (Starts test) = false
ends t (Ends test passed) = test_eq test t
ends t Silent = false

-- an end of a test that has passed
abbrev pub has_passed : Option Act → Bool
has_passed None = false
has_passed (Some (Starts test)) = false
has_passed (Some (Ends test passed)) = passed
has_passed (Some Silent) = false

-- the last end stands after the last start, and the test has passed by it
abbrev pub ends_well : List Act → ℕ → Option ℕ → Bool
ends_well acts start None = false
ends_well acts start (Some end) = nat_lt start end && has_passed (slice_get acts end)

abbrev pub standing_from : List Act → Option Bool → Option ℕ → Option ℕ → Option Standing
standing_from acts known None end = option_map Known known
standing_from acts known (Some start) end = Some (Started (ends_well acts start end))

-- how a test stands after a log, of which this was known before
abbrev pub standing_of : List Act → Option Bool → OwnedTestInstanceId → Option Standing
standing_of acts known t =
    standing_from acts known (last_at (starts t) acts) (last_at (ends t) acts)

-- ---- by the test's standing before the last event

-- an end counts only of a test that the log started
abbrev pub ended : Bool → Option Standing → Option Standing
ended passed None = None
ended passed (Some (Known known)) = Some (Known known)
ended passed (Some (Started before)) = Some (Started passed)

abbrev pub standing_after : Act → OwnedTestInstanceId → Option Standing → Option Standing
standing_after (Starts test) t before = if test_eq test t then Some (Started false) else before
standing_after (Ends test passed) t before = if test_eq test t then ended passed before else before
standing_after Silent t before = before

-- ---- in maps, by the binary and then by the name

abbrev pub Tests : Type 0
Tests = BTreeMap (String Global) (BTreeMap (String Global) Standing)

abbrev pub in_binary : Option (BTreeMap (String Global) Standing) → List ℕ → Option Standing
in_binary None name = None
in_binary (Some tests) name = get_by_text tests name

-- how a test stands
abbrev pub at : Tests → OwnedTestInstanceId → Option Standing
at tests t = in_binary (get_by_text tests t.binary_id) t.test_name

-- all stand as before, but for one test
abbrev pub Puts : Tests → OwnedTestInstanceId → Standing → Tests → Type 0
Puts old test standing new =
    (t : OwnedTestInstanceId) → at new t ≡ (if test_eq test t then Some standing else at old t)
