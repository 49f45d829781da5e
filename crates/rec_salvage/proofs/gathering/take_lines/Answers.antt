use Rattle.std.proofs.Common.{Bor, List, ℕ}
use Rattle.rec_salvage.proofs.GatheredLines.{none_case, some_case, taken_all}
use Rattle.rec_salvage.proofs.GatheredLines.{taken_first, taken_more}
use Rattle.rec_salvage.proofs.gathering.take_lines.Goals as goal
use Rattle.rec_salvage.specs.Gathering.{TakesLine, TakesNone}

pub lines-init : goal.lines-init
lines-init c =
    taken_first c.args.prefix.now.entries c.args.log.now c.new-gathered.result
    c.new-gathered.ensures

pub lines-preserved : goal.lines-preserved
lines-preserved c =
    let es = c.args.prefix.now.entries in
    let rest = c.lines.rest.now in
    let old = c.lines.gathered in
    let new = c.take_line.new.self in
    taken_more es c.args.log.now rest c.in-Some.after.now old new c.lines.invariant
    (some_case (TakesNone es rest old new)
    (λ (after : Bor (List ℕ)). TakesLine es rest old new after.now)
    c.in_ok-after.field-0 c.in-Some.after c.in-Some.is c.in_ok-after.ensures)

pub returns : goal.returns
returns c =
    let es = c.args.prefix.now.entries in
    let rest = c.lines.rest.now in
    let old = c.lines.gathered in
    let new = c.take_line.new.self in
    taken_all es c.args.log.now rest old new c.lines.invariant
    (none_case (TakesNone es rest old new)
    (λ (after : Bor (List ℕ)). TakesLine es rest old new after.now)
    c.in_ok-after.field-0 c.in_default.not-Some c.in_ok-after.ensures)
