use Rattle.std.proofs.Common.{ℕ, List, subst}
use Rattle.rec_export.proofs.LineBlocks.{block_added}
use Rattle.rec_export.proofs.session_lines.SessionLines.new.Goals as goal
use Rattle.rec_export.specs.SessionLines.{BeginsLastBlock}

pub loop-start-preserved : goal.loop-start-preserved
loop-start-preserved c =
    let now = c.loop-start in
    block_added c.args.text.items now.block.items c.take_end.new.text.items now.later.items
    c.push.new.self.items c.in_ok-last.last c.in-Some.start
    now.invariant (subst (λ (b : List ℕ). BeginsLastBlock b c.in-Some.start) c.deref.ensures.value
    c.in-Some.ensures)
    c.in_ok-last.ensures.rest c.in_ok-last.ensures.end c.in_ok-push.ensures.items
