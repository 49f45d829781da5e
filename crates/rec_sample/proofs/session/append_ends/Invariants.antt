use Rattle.std.proofs.Common.{◌≡◌, ◌*◌, ◌++◌, map}
use Rattle.std.specs.List.{range_with_len}
use Rattle.rec_sample.proofs.session.append_ends.Given as goal
use Rattle.rec_sample.specs.Events.{test_finished_event}
use Rattle.rec_sample.specs.Session.{event_lines}

-- the lines of those tests that were gone through
abbrev pub invariant-loop-slot : goal.invariant-loop-slot
invariant-loop-slot l = l.session.items ≡ l.fn.session.items ++ event_lines
    (map (test_finished_event l.tests) (range_with_len (8 * l.batch) l.slot))
