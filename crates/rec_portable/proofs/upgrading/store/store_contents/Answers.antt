use Rattle.std.proofs.Common.{◌++◌, ◌∙◌, ap, sym, arith, append-nil, ◌≤◌, length, map}
use Rattle.rec_container.specs.NamedContents.{entry_of}
use Rattle.rec_portable.proofs.EntriesLeft.{other_next, others_end}
use Rattle.rec_portable.proofs.upgrading.store.store_contents.Goals as goal
use Rattle.rec_portable.specs.Rewriting.{other_entries}

pub loop-i-init : goal.loop-i-init
loop-i-init c = ap (λ l. l ++ other_entries c.args.entries.now.entries) c.in_ok-contents.ensures

pub loop-i-preserved : goal.loop-i-preserved
loop-i-preserved c =
    other_next c.args.entries.now.entries c.loop-i.i c.name.result.now c.bytes.result.now _ _ _
    c.name.ensures c.bytes.ensures c.loop-i.invariant c.in_ok-add_output.ensures

pub returns : goal.returns
returns c =
    let past : length c.args.entries.now.entries ≤ c.loop-i.i =
    omega (arith, c.loop-i-test.false, c.len-i-end.ensures) in
    others_end c.args.entries.now.entries c.loop-i.i _ _ past c.loop-i.invariant
