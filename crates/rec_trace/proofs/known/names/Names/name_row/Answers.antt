use Rattle.std.proofs.Common.{refl}
use Rattle.rec_trace.proofs.Entries.{row-said}
use Rattle.rec_trace.proofs.known.names.Names.name_row.Goals as goal
use Rattle.rec_trace.proofs.KnownMaps.{row-named, rows-kept}

pub returns-clause-named : goal.returns-clause-named
returns-clause-named c =
    row-named c.args.row c.args.self.now.rows c.insert.new.self _ c.in-Ok.ensures.updates refl

pub returns-clause-kept : goal.returns-clause-kept
returns-clause-kept c =
    rows-kept c.args.row c.args.self.now.rows c.insert.new.self _ c.in-Ok.ensures.updates

pub returns-clause-says : goal.returns-clause-says
returns-clause-says c =
    row-said c.args.row c.args.self.now.rows c.insert.new.self _ c.in-Ok.ensures.updates refl
