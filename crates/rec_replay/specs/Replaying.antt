-- What a recorded event is replayed as.
use Rattle.std.specs.Borrow.{Bor}
use Rattle.std.specs.Prelude.{List, false, Option, Some, None, option_map}
use Rattle.rec_container.specs.Container.{Entry}
use Rattle.rec_events.specs.declared.events.CoreEventKind.TheVariants as core
use Rattle.rec_events.specs.declared.events.CoreEventKind.{CoreEventKind}
use Rattle.rec_events.specs.declared.events.OutputEventKind.TheVariants as ended
use Rattle.rec_events.specs.declared.events.OutputEventKind.{OutputEventKind}
use Rattle.rec_events.specs.declared.events.TestEventKindSummary.TheVariants.{Core, Output}
use Rattle.rec_events.specs.declared.events.TestEventKindSummary.{TestEventKindSummary}
use Rattle.rec_events.specs.declared.events.TestEventSummary.{TestEventSummary}
use Rattle.rec_events.specs.declared.instances.StressIndexSummary.{StressIndexSummary}
use Rattle.rec_events.specs.declared.live_events.TestEvent.{TestEvent}
use Rattle.rec_events.specs.declared.live_events.TestEventKind.TheVariants as live
use Rattle.rec_events.specs.declared.live_events.TestEventKind.{TestEventKind}
use Rattle.rec_events.specs.declared.live_stress.StressCondition.TheVariants as condition
use Rattle.rec_events.specs.declared.live_stress.StressCondition.{StressCondition}
use Rattle.rec_events.specs.declared.live_stress.StressCount.TheVariants as count
use Rattle.rec_events.specs.declared.live_stress.StressIndex.{StressIndex}
use Rattle.rec_events.specs.declared.outputs.ChildOutputDescription.TheVariants.{NotLoaded}
use Rattle.rec_events.specs.declared.outputs.ChildOutputDescription.{ChildOutputDescription}
use Rattle.rec_events.specs.declared.outputs.ZipStoreOutputDescription.{ZipStoreOutputDescription}
use Rattle.rec_events.specs.declared.stress.StressConditionSummary.TheVariants as recorded
use Rattle.rec_events.specs.declared.stress.StressConditionSummary.{StressConditionSummary}
use Rattle.rec_events.specs.EventMaps.{status_with, statuses_with, script_status_with}
use Rattle.rec_events.specs.EventMaps.{output_kind_with, kind_with, event_with}
use Rattle.rec_events.specs.Stats.{no_stats}
use Rattle.rec_events.specs.TestLists.{Tests}
use Rattle.rec_store.specs.EventOutputs.{Live, Recorded}
use Rattle.rec_replay.specs.declared.output_load.LoadOutput.{LoadOutput}
use Rattle.rec_replay.specs.Loading.{description_loaded}

abbrev pub stress_index_replayed : StressIndexSummary → StressIndex
stress_index_replayed i = record { current = i.current; total = i.total }

abbrev pub index_replayed : Option StressIndexSummary → Option StressIndex
index_replayed i = option_map stress_index_replayed i

-- no count becomes a run without end; a count of 0 is refused before
abbrev pub condition_replayed : StressConditionSummary → StressCondition
condition_replayed (recorded.Count None) = condition.Count count.Infinite
condition_replayed (recorded.Count (Some n)) = condition.Count (count.Count n)
condition_replayed (recorded.Duration time) = condition.Duration time

-- the test list is the context's; a cancel has no statistics but its reason
abbrev pub core_replayed : Bor Tests → CoreEventKind → TestEventKind
core_replayed tests (core.RunStarted run profile args condition) =
    live.RunStarted tests run profile args (option_map condition_replayed condition)
core_replayed tests (core.StressSubRunStarted progress) = live.StressSubRunStarted progress
core_replayed tests (core.SetupScriptStarted stress index total script program args no_capture) =
    live.SetupScriptStarted (index_replayed stress) index total script program args no_capture
core_replayed tests (core.SetupScriptSlow stress script program args elapsed terminates) =
    live.SetupScriptSlow (index_replayed stress) script program args elapsed terminates
core_replayed tests (core.TestStarted stress test slot stats running command) =
    live.TestStarted (index_replayed stress) test slot stats running command
core_replayed tests (core.TestSlow stress test retry elapsed terminates) =
    live.TestSlow (index_replayed stress) test retry elapsed terminates
core_replayed tests (core.TestRetryStarted stress test slot retry running command) =
    live.TestRetryStarted (index_replayed stress) test slot retry running command
core_replayed tests (core.TestSkipped stress test reason report) =
    live.TestSkipped (index_replayed stress) test reason report
core_replayed tests (core.RunBeginCancel scripts running reason) =
    live.RunBeginCancel scripts running (record no_stats { cancel_reason = Some reason })
core_replayed tests (core.RunPaused scripts running) = live.RunPaused scripts running
core_replayed tests (core.RunContinued scripts running) = live.RunContinued scripts running
core_replayed tests (core.StressSubRunFinished progress elapsed stats) =
    live.StressSubRunFinished progress elapsed stats
core_replayed tests (core.RunFinished run start elapsed stats not_seen) =
    live.RunFinished run start elapsed stats not_seen

-- a setup script has lost its flags for reports
abbrev pub output_live : Live OutputEventKind → TestEventKind
output_live (ended.SetupScriptFinished stress index total script program args no_capture status) =
    live.SetupScriptFinished (index_replayed stress)
    index total script program args no_capture false false status
output_live (ended.TestAttemptFailedWillRetry stress test status delay failure running) =
    live.TestAttemptFailedWillRetry (index_replayed stress) test status delay failure running
output_live (ended.TestFinished stress test success failure store_success store_failure flaky
    statuses stats running) =
    live.TestFinished (index_replayed stress)
    test success failure store_success store_failure flaky statuses stats running

abbrev pub kind_live : Bor Tests → Live TestEventKindSummary → TestEventKind
kind_live tests (Core kind) = core_replayed tests kind
kind_live tests (Output kind) = output_live kind

-- an event whose outputs are loaded, as it was when it happened
abbrev pub event_live : Bor Tests → Live TestEventSummary → TestEvent
event_live tests e =
    record { timestamp = e.timestamp; elapsed = e.elapsed; kind = kind_live tests e.kind }

-- f gives what is loaded of each output
module _ (f : ZipStoreOutputDescription → ChildOutputDescription) where
  abbrev pub output_replayed : Recorded OutputEventKind → TestEventKind
  output_replayed kind = output_live (output_kind_with f kind)

  abbrev pub kind_replayed : Bor Tests → Recorded TestEventKindSummary → TestEventKind
  kind_replayed tests kind = kind_live tests (kind_with f kind)

  abbrev pub event_replayed : Bor Tests → Recorded TestEventSummary → TestEvent
  event_replayed tests e = event_live tests (event_with f e)

-- the live event that a recorded event stands for, by the entries of a store and a test list
abbrev pub replayed : LoadOutput → Bor Tests → List Entry → Recorded TestEventSummary → TestEvent
replayed load tests es e = event_replayed (description_loaded load es) tests e

-- ---- without outputs

-- an output that was not loaded, in place of one that was and of one that was recorded
abbrev pub unloaded : ChildOutputDescription → ChildOutputDescription
unloaded outputs = NotLoaded

abbrev pub left_out : ZipStoreOutputDescription → ChildOutputDescription
left_out outputs = NotLoaded

-- the same with each output not loaded
abbrev pub kind_unloaded : TestEventKind → TestEventKind
kind_unloaded (live.SetupScriptFinished stress index total script program args no_capture
    store_success store_failure status) =
    live.SetupScriptFinished stress index total script program args no_capture store_success
    store_failure (script_status_with unloaded status)
kind_unloaded (live.TestAttemptFailedWillRetry stress test status delay failure running) =
    live.TestAttemptFailedWillRetry stress test (status_with unloaded status) delay failure running
kind_unloaded (live.TestFinished stress test success failure store_success store_failure flaky
    statuses stats running) =
    live.TestFinished stress test success failure store_success store_failure flaky
    (statuses_with unloaded statuses) stats running
kind_unloaded kind = kind

abbrev pub event_unloaded : TestEvent → TestEvent
event_unloaded e =
    record { timestamp = e.timestamp; elapsed = e.elapsed; kind = kind_unloaded e.kind }
