use Rattle.rec_portable_writer.proofs.Replacements.{replaces}
use Rattle.rec_portable_writer.proofs.replacing.replace_file.Goals as goal

pub returns-clause-answer : goal.returns-clause-answer
returns-clause-answer g c =
    let files = g.D.Disk.files in
    replaces (files c.args.disk.now) (files c.write_file.new.disk) (files c.rename.new.self)
    c.args.temporary.now c.args.path.now c.args.bytes.now c.in_ok-write_file.field-0 c.rename.result
    c.in_ok-write_file.ensures.answer c.rename.ensures.answer
