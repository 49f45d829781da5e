use Rattle.std.proofs.Common.{◌≡◌, ◌≤◌, ◌-◌, vec_len}
use Rattle.rec_directory.proofs.file.read_prefix.Given as goal
use Rattle.rec_directory.specs.Files.{IsStart}

abbrev pub invariant-pieces : goal.invariant-pieces
invariant-pieces g l = record {
  start : IsStart (g.D.Disk.files l.fn.disk) l.path l.bytes.items;
  same : g.D.Disk.files l.disk ≡ g.D.Disk.files l.fn.disk;
  later : g.D.Disk.faults l.fn.disk ≤ g.D.Disk.faults l.disk;
  within : vec_len l.bytes ≤ l.len;
}

abbrev pub decreases-pieces : goal.decreases-pieces
decreases-pieces g l = l.len - vec_len l.bytes
