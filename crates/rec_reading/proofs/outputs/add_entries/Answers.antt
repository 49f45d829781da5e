use Rattle.std.proofs.Common.{◌≤◌, [], arith, length}
use Rattle.std.proofs.lemmas.Result.{err_from_is_err_and}
use Rattle.rec_container.specs.Writing.{entry_named}
use Rattle.rec_reading.proofs.outputs.add_entries.Goals as goal
use Rattle.rec_reading.proofs.OutputsPrinted.{entry_here, nothing-put, put-all, put-more}
use Rattle.rec_reading.proofs.OutputsPrinted.{put-refused}

pub loop-i-init : goal.loop-i-init
loop-i-init c = nothing-put c.args.store.now.entries c.args.text.now.items

pub loop-i-preserved : goal.loop-i-preserved
loop-i-preserved c =
    let l = c.loop-i in
    put-more c.args.store.now.entries l.i _ _ l.invariant
    (entry_named c.name.result.now c.bytes.result.now)
    (entry_here c.args.store.now.entries l.i _ _ c.name.ensures c.bytes.ensures)
    _ c.in_ok-add_entry.ensures

pub returns-in_err-add_entry : goal.returns-in_err-add_entry
returns-in_err-add_entry c =
    let l = c.loop-i in
    let p = err_from_is_err_and c.from_residual.result c.from_residual.ensures.1 in
    rw (p.1, p.2) (put-refused c.args.store.now.entries l.i _ _ l.invariant
    (entry_named c.name.result.now c.bytes.result.now)
    (entry_here c.args.store.now.entries l.i _ _ c.name.ensures c.bytes.ensures)
    c.add_entry.new.text.items [] c.in_err-add_entry.field-0.0 c.in_err-add_entry.ensures)

pub returns : goal.returns
returns c =
    let past : length c.args.store.now.entries ≤ c.loop-i.i =
    omega (arith, c.loop-i-test.false, c.len-i-end.ensures) in
    put-all c.args.store.now.entries c.loop-i.i _ _ c.loop-i.invariant past
