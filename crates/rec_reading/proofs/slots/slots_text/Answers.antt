use Rattle.std.proofs.Common.{List, map, subst}
use Rattle.std.proofs.lemmas.Result.{err_from_is_err_and}
use Rattle.rec_codec.specs.Event.{RecordedEvent}
use Rattle.rec_spans.specs.Plain.{plain}
use Rattle.rec_reading.proofs.slots.slots_text.Goals as goal
use Rattle.rec_reading.proofs.SlotsRead.{slots-made, slots-unread}
use Rattle.rec_reading.specs.Listing.{Makes}
use Rattle.rec_reading.specs.Slots.{PrintsUsage}

pub returns-in_err-events : goal.returns-in_err-events
returns-in_err-events c = λ es is.
    let p = err_from_is_err_and c.from_residual.result c.from_residual.ensures.1 in
    rw (p.1, p.2) (slots-unread c.args.bundle.limit es _ (c.in_err-events.ensures es is))

pub returns : goal.returns
returns c = λ es is.
    slots-made c.args.bundle.limit es c.in_ok-events.events.items
    (c.in_ok-events.ensures es is) c.usage_text-result.result
    (subst (λ (events : List RecordedEvent). Makes (PrintsUsage (map plain events))
    c.usage_text-result.result) c.deref.ensures.value c.usage_text-result.ensures)
