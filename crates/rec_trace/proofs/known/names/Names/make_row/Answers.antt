use Rattle.std.proofs.Common.{refl}
use Rattle.rec_trace.proofs.Entries.{row-other}
use Rattle.rec_trace.proofs.known.names.Names.make_row.Goals as goal
use Rattle.rec_trace.proofs.KnownMaps.{row-absent, row-unnamed, rows-kept}

pub returns-clause-same : goal.returns-clause-same
returns-clause-same c =
    let rows = c.args.self.now.rows in
    row-unnamed c.args.row rows c.insert.new.self _ c.in_ok-insert.ensures.updates
    (row-absent rows c.args.row _ c.contains_key.ensures c.if-contains_key.false) refl

pub returns-clause-kept : goal.returns-clause-kept
returns-clause-kept c =
    rows-kept c.args.row c.args.self.now.rows c.insert.new.self _ c.in_ok-insert.ensures.updates

pub returns-clause-says : goal.returns-clause-says
returns-clause-says c =
    row-other c.args.row c.args.self.now.rows c.insert.new.self _ c.in_ok-insert.ensures.updates
