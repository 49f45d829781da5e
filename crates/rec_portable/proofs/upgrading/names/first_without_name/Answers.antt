use Rattle.std.proofs.Common.{◌≤◌, ◌∙◌, ◌||◌, ap, sym, arith, length}
use Rattle.rec_store.specs.RunParts.{is_metadata}
use Rattle.rec_portable.proofs.EntriesLeft.{unnamed_end, with_place, without_place}
use Rattle.rec_portable.proofs.upgrading.names.first_without_name.Goals as goal

pub returns-then-not-has_place : goal.returns-then-not-has_place
returns-then-not-has_place c = λ named are.
    let name = c.name-name.result.now in
    let there = ap (λ b. is_metadata name || b) (sym (are name)) ∙ sym c.has_place.ensures in
    without_place c.args.entries.now.entries c.loop-i.i name c.name-name.ensures named
    (c.loop-i.invariant named are) (there ∙ c.if-not-has_place.true)

pub loop-i-preserved : goal.loop-i-preserved
loop-i-preserved c = λ named are.
    let name = c.name-name.result.now in
    let there = ap (λ b. is_metadata name || b) (sym (are name)) ∙ sym c.has_place.ensures in
    with_place c.args.entries.now.entries c.loop-i.i name c.name-name.ensures named
    (c.loop-i.invariant named are) (there ∙ c.if-not-has_place.false)

pub returns : goal.returns
returns c = λ named are.
    let past : length c.args.entries.now.entries ≤ c.loop-i.i =
    omega (arith, c.loop-i-test.false, c.len-i-end.ensures) in
    unnamed_end named c.args.entries.now.entries c.loop-i.i past (c.loop-i.invariant named are)
