use Rattle.std.proofs.Common.{◌≡◌, ◌-ℤ◌, ◌*◌, ◌^◌, List, pos, take}
use Rattle.std.specs.Int.Signed.{◌≤ℤ◌}
use Rattle.rec_spans.specs.Past.{TraceInput}
use Rattle.rec_view.proofs.instants.Instants.time_of.Given as goal
use Rattle.rec_view.specs.Instants.{HasInstants, time_of_slices}
use Rattle.rec_view.specs.ShownGaps.{pairs}

-- the time of the slices so far
abbrev pub invariant-loop-slice : goal.invariant-loop-slice
invariant-loop-slice l = record {
  time : (history : List TraceInput) → HasInstants history l.self
      → l.time ≡ time_of_slices history (pairs (take l.slice-index l.slices));
  low : (pos 0 -ℤ pos (l.slice-index * 2 ^ 64)) ≤ℤ l.time;
  high : l.time ≤ℤ pos (l.slice-index * 2 ^ 64);
}
