use Rattle.std.proofs.Common.{◌≡◌, ◌<◌, ◌∙◌, ◌&&◌, Bool, ap, arith, length, List, ℕ, []}
use Rattle.std.specs.Int.{from_bool}
use Rattle.rec_container.specs.Container.{Entry}
use Rattle.rec_format.specs.Paths.{is_zip_path}
use Rattle.rec_portable.proofs.Counted.{counted_more, not_above}
use Rattle.rec_portable.proofs.file_counts.FileCounts.of_entries.Goals as goal
use Rattle.rec_portable.specs.Judging.{is_file}

abbrev is_zip_file : List ℕ → Bool
is_zip_file name = is_file name && is_zip_path name

pub loop-i-preserved : goal.loop-i-preserved
loop-i-preserved c =
    let es = c.args.entries.now.entries in
    let i = c.loop-i.i in
    let name = c.name-name.result.now in
    let none : Entry = record { name = []; content = [] } in
    let here : i < length es = omega (arith, c.loop-i-test.true, c.len-i-end.ensures) in
    let file : c.from-files.result ≡ from_bool (is_file name) =
    c.from-files.ensures ∙ ap from_bool c.is_file_name.ensures in
    let zip : c.from-zips.result ≡ from_bool (is_zip_file name) =
    c.from-zips.ensures ∙ ap from_bool c.is_zip_file_name.ensures in
    record {
      files =
          counted_more is_file es i c.loop-i.files name none here c.name-name.ensures
          c.loop-i.invariant.files c.from-files.result file;
      zips =
          counted_more is_zip_file es i c.loop-i.zips name none here c.name-name.ensures
          c.loop-i.invariant.zips c.from-zips.result zip;
      most_files =
          not_above (is_file name)
          c.loop-i.files i c.from-files.result c.loop-i.invariant.most_files file;
      most_zips =
          not_above (is_zip_file name)
          c.loop-i.zips i c.from-zips.result c.loop-i.invariant.most_zips zip;
    }
