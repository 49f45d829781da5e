use Rattle.std.proofs.Common.{◌≡◌, ◌≤◌, ◌&&◌, take, count_by}
use Rattle.rec_container.specs.Container.{Entry}
use Rattle.rec_format.specs.Paths.{is_zip_path}
use Rattle.rec_portable.proofs.file_counts.FileCounts.of_entries.Given as goal
use Rattle.rec_portable.specs.Judging.{is_file}

-- the entries before are counted
abbrev pub invariant-loop-i : goal.invariant-loop-i
invariant-loop-i l = record {
  files : l.files ≡ count_by (λ (e : Entry). is_file e.name) (take l.i l.entries.entries);
  zips : l.zips
      ≡ count_by (λ (e : Entry). is_file e.name && is_zip_path e.name) (take l.i l.entries.entries);
  most_files : l.files ≤ l.i;
  most_zips : l.zips ≤ l.i;
}
