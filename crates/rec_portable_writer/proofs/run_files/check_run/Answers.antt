use Rattle.std.proofs.Common.{rules}
use Rattle.rec_portable_writer.proofs.Lacking.{unprepared_log}
use Rattle.rec_portable_writer.proofs.run_files.check_run.Goals as goal

pub returns-clause-err : goal.returns-clause-err
returns-clause-err g c =
    unprepared_log g.D.Disk.files g.D.Disk.faults c.args.disk.now c.check_file.new.disk
    c.args.run_dir.now (search rules) (search rules) c.check_file-2.result (search rules)
    (search rules) c.check_file-2.ensures.err
