use Rattle.std.proofs.Common.{length, ◌-◌}
use Rattle.rec_container.proofs.streams.write_all_dyn.Given as goal
use Rattle.rec_container.proofs.Written.{Written}

abbrev pub invariant-loop-done : goal.invariant-loop-done
invariant-loop-done g l =
    let before = l.fn.sink.now in
    let now = l.sink.now in
    let old = goal.Sink-dyn g before in
    let new = goal.Sink-dyn g now in
    Written (old.taken before.1) (new.taken now.1) (old.faults before.1) (new.faults now.1)
    l.bytes l.done

abbrev pub decreases-loop-done : goal.decreases-loop-done
decreases-loop-done g l = length l.bytes - l.done
