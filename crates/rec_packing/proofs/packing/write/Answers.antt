use Rattle.std.proofs.Common.{rules, sym, subst}
use Rattle.rec_packing.proofs.Made.{leaves, write_fails}
use Rattle.rec_packing.proofs.packing.write.Goals as goal
use Rattle.rec_packing.specs.declared.errors.PackError.{PackError}
use Rattle.rec_packing.specs.Packing.{Unwritten}

pub returns-clause-err : goal.returns-clause-err
returns-clause-err g c =
    let old = c.args.disk.now in
    let new = c.replace_file.new.disk in
    subst (λ (e : PackError). Unwritten (g.D.Disk.files old) (g.D.Disk.faults old)
    (g.D.Disk.faults new) e) (sym c.write_fault.ensures)
    (write_fails (g.D.Disk.files old) (g.D.Disk.files new) c.as_str.result.now
    c.args.path.now c.as_slice.result.now (g.D.Disk.faults old) (g.D.Disk.faults new)
    c.in-Err.error c.in-Err.ensures.answer c.in-Err.ensures.cause)

pub returns-clause-leaves : goal.returns-clause-leaves
returns-clause-leaves g c =
    let old = c.args.disk.now in
    let new = c.replace_file.new.disk in
    leaves (g.D.Disk.files old) (g.D.Disk.files new) c.as_str.result.now c.args.path.now
    c.args.path.now c.as_slice.result.now c.in-Err.error (search rules) c.in-Err.ensures.answer
