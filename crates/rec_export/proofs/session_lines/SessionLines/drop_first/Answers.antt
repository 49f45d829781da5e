use Rattle.std.proofs.Common.{◌≡◌, ◌≤◌, ◌+◌, ◌-◌, ap, ◌∙◌, arith, length}
use Rattle.std.proofs.lemmas.Bool.Decides.{nat_tests}
use Rattle.std.proofs.lemmas.Grind.{common_steps}
use Rattle.rec_export.proofs.LineBlocks.{first_from, next_block, next_blocks, next_number}
use Rattle.rec_export.proofs.session_lines.SessionLines.drop_first.Goals as goal
use Rattle.rec_export.specs.Session.{event_lines}
use Rattle.rec_export.specs.SessionLines.{lines_left}

pub invariant_of-self : goal.invariant_of-self
invariant_of-self c =
    let held = c.self.inside in
    let text = held.block.items in
    let line = c.first_line-taken.result.0.now in
    let taken = c.first_line-taken.result.1 in
    let first = first_from text c.deref.result.now line held.start taken c.deref.ensures.value
    c.first_line-taken.ensures in
    let up : c.saturating_add-self-inside.result ≤ held.number + 1 = let e =
    c.saturating_add-self-inside.ensures in
    grind (arith, nat_tests) in
    let inside : taken ≤ length text - held.start = let i = first.inside in
    grind (arith, common_steps) in
    next_blocks held.number c.saturating_add-self-inside.result held.start taken text
    held.later.items c.pop.new.self.items c.in-Some.block c.self.invariant c.in-Some.ensures.items
    first.some up inside

pub returns-in-Some : goal.returns-in-Some
returns-in-Some c =
    let held = c.self.inside in
    let text = held.block.items in
    let line = c.first_line-taken.result.0.now in
    let taken = c.first_line-taken.result.1 in
    let first = first_from text c.deref.result.now line held.start taken c.deref.ensures.value
    c.first_line-taken.ensures in
    let end : length text ≤ held.start + taken = let t = c.if-self-len.true in
    let l = c.len.ensures in grind (arith, nat_tests) in
    let next = next_block held.number held.start taken text line held.later.items
    c.pop.new.self.items c.in-Some.block first.first end c.in-Some.ensures.items in
    let number : c.saturating_add-self-inside.result ≡ held.number + 1 =
    c.saturating_add-self-inside.ensures
    ∙ next_number held.number held.start taken text held.later.items c.pop.new.self.items
    c.in-Some.block c.self.invariant c.in-Some.ensures.items first.some
    (let i = first.inside in grind (arith, common_steps)) in
    ap (λ n. lines_left n 0 c.in-Some.block.items c.pop.new.self.items) number ∙ next
    ∙ ap event_lines c.self.view_is
