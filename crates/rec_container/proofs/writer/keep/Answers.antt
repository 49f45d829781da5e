use Rattle.std.proofs.Common.{refl}
use Rattle.rec_container.proofs.Entries.{entries_of-insert}
use Rattle.rec_container.proofs.Results.{ok_fact}
use Rattle.rec_container.proofs.writer.keep.Goals as goal

pub returns : goal.returns
returns c =
    let inserted =
    ok_fact c.insert.result c.unwrap.result c.unwrap.ensures c.insert.ensures.entries in
    entries_of-insert c.args.entries.now c.insert.new.self c.args.entries.now c.args.entry.name
    c.args.entry.content _ _ c.requires.absent refl refl refl inserted
