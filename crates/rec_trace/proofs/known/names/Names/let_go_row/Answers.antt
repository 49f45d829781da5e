use Rattle.std.proofs.Common.{None, sym, ◌∙◌}
use Rattle.rec_trace.proofs.Entries.{row-said, row-says}
use Rattle.rec_trace.proofs.known.names.Names.let_go_row.Goals as goal
use Rattle.rec_trace.proofs.KnownMaps.{row-forgotten}

pub returns-then-is_named-clause-says : goal.returns-then-is_named-clause-says
returns-then-is_named-clause-says c =
    row-says c.args.row c.args.self.now.rows (sym c.is_named.ensures ∙ c.if-is_named.true)

pub returns-clause-same : goal.returns-clause-same
returns-clause-same c =
    row-forgotten c.args.row c.args.self.now.rows c.remove.new.self c.remove.ensures.updates
    (sym c.is_named.ensures ∙ c.if-is_named.false)

pub returns-clause-says : goal.returns-clause-says
returns-clause-says c =
    row-said c.args.row c.args.self.now.rows c.remove.new.self None c.remove.ensures.updates tt
