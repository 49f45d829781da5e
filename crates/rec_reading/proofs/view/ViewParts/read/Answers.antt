use Rattle.std.proofs.Common.{◌≡◌, List, Ok, subst}
use Rattle.std.proofs.lemmas.Result.{err_from_is_err_and}
use Rattle.rec_codec.specs.Event.{RecordedEvent}
use Rattle.rec_reading.proofs.Opened.{Refused}
use Rattle.rec_reading.proofs.view.ViewParts.read.Goals as goal
use Rattle.rec_reading.proofs.ViewRead.{outputs-unread, parts-read, view-unread}
use Rattle.rec_reading.specs.Views.{outputs_if}

pub returns-in_err-events : goal.returns-in_err-events
returns-in_err-events c = λ es is.
    let bundle = c.args.bundle.now in
    let p = err_from_is_err_and c.from_residual.result c.from_residual.ensures.1 in
    rw (p.1, p.2) (view-unread c.args.load_output bundle.limit bundle.bytes c.manifest.result.now
    c.manifest.ensures.judged es is _ (c.in_err-events.ensures es is))

pub returns-in-Ok : goal.returns-in-Ok
returns-in-Ok c = λ es is.
    let bundle = c.args.bundle.now in
    let events = c.in_ok-events.events.items in
    let beside = c.in-Ok.ensures es is in
    parts-read c.args.load_output bundle.limit bundle.bytes c.manifest.result.now
    c.manifest.ensures.judged es is events (c.in_ok-events.ensures es is)
    c.in-Ok.run' c.in-Ok.outputs.items beside.0
    (subst (λ (events : List RecordedEvent).
    outputs_if c.args.load_output es events ≡ Ok c.in-Ok.outputs.items)
    c.deref.ensures.value beside.1)

pub returns-in-Err : goal.returns-in-Err
returns-in-Err c = λ es is.
    let bundle = c.args.bundle.now in
    let events = c.in_ok-events.events.items in
    outputs-unread c.args.load_output bundle.limit bundle.bytes c.manifest.result.now
    c.manifest.ensures.judged es is events (c.in_ok-events.ensures es is) c.in-Err.error
    (subst (λ (events : List RecordedEvent).
    Refused (outputs_if c.args.load_output es events) c.in-Err.error)
    c.deref.ensures.value (c.in-Err.ensures es is))
