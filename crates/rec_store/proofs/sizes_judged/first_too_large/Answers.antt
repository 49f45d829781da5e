use Rattle.std.proofs.Common.{sym, ◌∙◌}
use Rattle.rec_store.proofs.EntrySizes.{passed_at, found_at}
use Rattle.rec_store.proofs.sizes_judged.first_too_large.Goals as goal

pub returns-in-Some : goal.returns-in-Some
returns-in-Some g c =
    found_at c.args.limit c.args.entries.now.entries c.loop-i.i c.name.result.now c.bytes.result.now
    c.name.ensures c.bytes.ensures c.loop-i.invariant c.in-Some.too_large
    (sym c.in-Some.is ∙ c.in_ok-found.ensures)

pub loop-i-preserved : goal.loop-i-preserved
loop-i-preserved g c =
    passed_at c.args.limit c.args.entries.now.entries c.loop-i.i c.name.result.now
    c.bytes.result.now c.name.ensures c.bytes.ensures c.loop-i.invariant c.in_ok-found.found
    c.in_default.not-Some c.in_ok-found.ensures
