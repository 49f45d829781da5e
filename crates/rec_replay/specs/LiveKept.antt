-- What a recording keeps of a live event.
use Rattle.std.specs.Borrow.{Bor}
use Rattle.std.specs.Prelude.{ℕ, false, Some, None, option_map, unwrap_or}
use Rattle.rec_events.specs.declared.live_events.TestEvent.{TestEvent}
use Rattle.rec_events.specs.declared.live_events.TestEventKind.TheVariants.{
  RunStarted,
  SetupScriptFinished,
  TestAttemptFailedWillRetry,
  TestFinished,
  RunBeginCancel,
}
use Rattle.rec_events.specs.declared.live_events.TestEventKind.{TestEventKind}
use Rattle.rec_events.specs.declared.outputs.ChildOutputDescription.TheVariants.{
  Split,
  Combined,
  NotLoaded,
}
use Rattle.rec_events.specs.declared.outputs.ChildOutputDescription.{ChildOutputDescription}
use Rattle.rec_events.specs.declared.reporting.CancelReason.TheVariants.{Signal}
use Rattle.rec_events.specs.EventMaps.{status_with, statuses_with, script_status_with}
use Rattle.rec_events.specs.Stats.{no_stats}
use Rattle.rec_events.specs.TestLists.{Tests}
use Rattle.rec_store.specs.Cut.{cut}

-- each output is cut at m bytes; what isn't loaded is never recorded, and its value says nothing
abbrev pub outputs_cut : ℕ → ChildOutputDescription → ChildOutputDescription
outputs_cut m (Split out err) =
    Split (option_map (λ b. cut b m) out) (option_map (λ b. cut b m) err)
outputs_cut m (Combined both) = Combined (cut both m)
outputs_cut m NotLoaded = Split None None

-- outputs are cut; a cancel has no statistics but its reason, which is that of a signal where it
-- has none; a setup script has lost its flags for reports; a run's start has this test list;
-- and all else is the same
abbrev pub live_kind_kept : ℕ → Bor Tests → TestEventKind → TestEventKind
live_kind_kept m tests (RunStarted list run profile args condition) =
    RunStarted tests run profile args condition
live_kind_kept m tests (RunBeginCancel scripts running stats) =
    RunBeginCancel scripts running
    (record no_stats { cancel_reason = Some (unwrap_or stats.cancel_reason Signal) })
live_kind_kept m tests (SetupScriptFinished stress index total script program args no_capture
    store_success store_failure status) =
    SetupScriptFinished stress index total script program args no_capture false false
    (script_status_with (outputs_cut m) status)
live_kind_kept m tests (TestAttemptFailedWillRetry stress test status delay failure running) =
    TestAttemptFailedWillRetry stress test (status_with (outputs_cut m) status)
    delay failure running
live_kind_kept m tests (TestFinished stress test success failure store_success store_failure flaky
    statuses stats running) =
    TestFinished stress test success failure store_success store_failure flaky
    (statuses_with (outputs_cut m) statuses) stats running
live_kind_kept m tests kind = kind

abbrev pub live_event_kept : ℕ → Bor Tests → TestEvent → TestEvent
live_event_kept m tests e =
    record { timestamp = e.timestamp; elapsed = e.elapsed; kind = live_kind_kept m tests e.kind }
