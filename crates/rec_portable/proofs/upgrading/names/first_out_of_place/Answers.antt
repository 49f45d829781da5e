use Rattle.std.proofs.Common.{◌≤◌, ◌∙◌, sym, arith, length}
use Rattle.rec_portable.proofs.EntriesLeft.{foreign_end, in_place, out_of_place}
use Rattle.rec_portable.proofs.upgrading.names.first_out_of_place.Goals as goal

pub returns-then-not-is_in_place : goal.returns-then-not-is_in_place
returns-then-not-is_in_place c =
    out_of_place c.args.entries.now.entries c.loop-i.i c.name-name.result.now c.name-name.ensures
    c.loop-i.invariant (sym c.is_in_place.ensures ∙ c.if-not-is_in_place.true)

pub loop-i-preserved : goal.loop-i-preserved
loop-i-preserved c =
    in_place c.args.entries.now.entries c.loop-i.i c.name-name.result.now c.name-name.ensures
    c.loop-i.invariant (sym c.is_in_place.ensures ∙ c.if-not-is_in_place.false)

pub returns : goal.returns
returns c =
    let past : length c.args.entries.now.entries ≤ c.loop-i.i =
    omega (arith, c.loop-i-test.false, c.len-i-end.ensures) in
    foreign_end c.args.entries.now.entries c.loop-i.i past c.loop-i.invariant
