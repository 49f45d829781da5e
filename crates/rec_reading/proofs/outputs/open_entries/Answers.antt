use Rattle.std.proofs.Common.{Err, Ok, subst}
use Rattle.std.proofs.lemmas.Result.{err_from_is_err_and}
use Rattle.rec_reading.proofs.outputs.open_entries.Goals as goal
use Rattle.rec_reading.proofs.StoreEntries.{store-read, store-unread}
use Rattle.rec_reading.specs.RunParts.{OpensStored}

pub returns-in_err-entries : goal.returns-in_err-entries
returns-in_err-entries c = λ es is.
    let p = err_from_is_err_and c.from_residual.result c.from_residual.ensures.1 in
    let e = c.in_err-entries.field-0.0 in
    rw (p.1, p.2) (store-unread es e
    (subst (λ found. OpensStored found (Err e)) (c.store_window.ensures es is)
    c.in_err-entries.ensures))

pub returns : goal.returns
returns c = λ es is.
    store-read es c.in_ok-entries.entries
    (subst (λ found. OpensStored found (Ok c.in_ok-entries.entries)) (c.store_window.ensures es is)
    c.in_ok-entries.ensures)
