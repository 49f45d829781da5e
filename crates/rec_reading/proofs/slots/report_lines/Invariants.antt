use Rattle.std.proofs.Common.{◌≡◌, ◌++◌, take}
use Rattle.std.specs.List.{flat_map}
use Rattle.rec_reading.proofs.slots.report_lines.Given as goal
use Rattle.rec_reading.specs.Slots.{run_line, slot_line}

-- the lines of the run and of the slots so far
abbrev pub invariant-loop-usage : goal.invariant-loop-usage
invariant-loop-usage l =
    l.text.items
    ≡ run_line l.report.run_length ++ flat_map slot_line (take l.usage-index l.report.slots)
