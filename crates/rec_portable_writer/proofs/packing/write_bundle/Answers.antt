use Rattle.std.proofs.Common.{rules, ◌≡◌, ◌∙◌, Err, ap, sym, subst}
use Rattle.rec_disk.specs.Disks.{BothKnown}
use Rattle.rec_portable_writer.proofs.Packed.{packs, refused}
use Rattle.rec_portable_writer.proofs.packing.write_bundle.Goals as goal
use Rattle.rec_portable_writer.specs.declared.errors.PortableRecordingError.{PortableRecordingError}
use Rattle.rec_portable_writer.specs.Packing.{PacksIn, write_error}

pub returns-in-Ok-clause-packs : goal.returns-in-Ok-clause-packs
returns-in-Ok-clause-packs g c =
    let files = g.D.Disk.files in
    let faults = g.D.Disk.faults in
    let old = c.args.disk.now in
    let made = c.make_bundle.new.disk in
    let new = c.replace_file.new.disk in
    packs (files old) (files made) (files new) c.args.run_info.now c.args.run_dir.now
    c.args.output_path.now c.as_str.result.now c.deref.result.now (search rules)
    c.make_bundle.ensures.same (search rules)
    _ c.in-Ok.field-0 (faults old) (faults new) c.in-Ok.ensures.answer c.in_ok-path.ensures.value
    (search rules)

pub returns-clause-packs : goal.returns-clause-packs
returns-clause-packs g c =
    let files = g.D.Disk.files in
    let faults = g.D.Disk.faults in
    let info = c.args.run_info.now in
    let dir = c.args.run_dir.now in
    let path = c.args.output_path.now in
    let old = c.args.disk.now in
    let made = c.make_bundle.new.disk in
    let new = c.replace_file.new.disk in
    let error = c.in-Err.error in
    let P : PortableRecordingError → Type 0 = λ e. BothKnown (files old) (files new)
    (λ fs gs. PacksIn fs gs (faults old) (faults new) info dir path (Err e)) in
    let is : write_error path error ≡ c.write_error.result =
    ap (λ p. write_error p error) (sym c.in_ok-path.ensures.value) ∙ sym c.write_error.ensures in
    subst P is
    (refused (files old) (files made) (files new) info dir path c.as_str.result.now
    c.deref.result.now (search rules) c.make_bundle.ensures.same (search rules)
    error (faults old) (faults made) (faults new)
    c.in-Err.ensures.answer c.make_bundle.ensures.later c.in-Err.ensures.cause)
