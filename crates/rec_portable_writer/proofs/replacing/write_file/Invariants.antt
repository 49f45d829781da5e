use Rattle.std.proofs.Common.{◌≤◌, ◌-◌, length, take}
use Rattle.rec_disk.specs.Disks.{BothKnown}
use Rattle.rec_portable_writer.proofs.replacing.write_file.Given as goal
use Rattle.rec_portable_writer.specs.Replacing.{IsPut}

abbrev pub invariant-pieces : goal.invariant-pieces
invariant-pieces g l = record {
  put : BothKnown (g.D.Disk.files l.fn.disk) (g.D.Disk.files l.disk)
      (λ fs gs. IsPut fs gs l.path (take l.at l.bytes));
  later : g.D.Disk.faults l.fn.disk ≤ g.D.Disk.faults l.disk;
  within : l.at ≤ length l.bytes;
}

abbrev pub decreases-pieces : goal.decreases-pieces
decreases-pieces g l = length l.bytes - l.at
