use Rattle.std.specs.Map.{lookup}
use Rattle.rec_spans.specs.Keys.{row_eq}
use Rattle.rec_trace.proofs.Counting.{counted-all}
use Rattle.rec_trace.proofs.Entries.{entry-named}
use Rattle.rec_trace.proofs.known.names.Names.count.Goals as goal
use Rattle.rec_trace.proofs.KnownMaps.{rows-once}
use Rattle.rec_trace.specs.KnownMaps.{row_named}

pub returns : goal.returns
returns c = λ says.
    let map = c.args.self.now.rows in
    counted-all row_eq map.entries (row_named c.args.self.now) c.len.result
    (rows-once map c.len.ensures.ordered)
    (λ k. entry-named (lookup (row_eq k) map.entries) (says k)) c.len.ensures.len
