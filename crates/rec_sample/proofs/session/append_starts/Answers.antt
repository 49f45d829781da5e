use Rattle.std.proofs.Common.{◌*◌}
use Rattle.rec_sample.proofs.EventLines.{counted_more}
use Rattle.rec_sample.proofs.session.append_starts.Goals as goal
use Rattle.rec_sample.specs.Events.{test_started_event}

pub loop-slot-preserved : goal.loop-slot-preserved
loop-slot-preserved c =
    counted_more
    (test_started_event c.args.tests)
    (8 * c.args.batch)
    c.loop-slot.slot
    c.args.session.now.items
    c.loop-slot.session.items
    c.append_event.new.session.items
    c.in_ok-event.event
    c.loop-slot.invariant
    c.in_ok-event.ensures.value
    c.in_ok-append_event.ensures
