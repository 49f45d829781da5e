use Rattle.std.proofs.Common.{List, subst, sym, take}
use Rattle.std.proofs.lemmas.List.{take_all}
use Rattle.rec_rerun.proofs.LastPlaces.{take_more}
use Rattle.rec_rerun.proofs.selection.RerunSelector.add_events.Goals as goal
use Rattle.rec_rerun.specs.Selection.{HasTaken}
use Rattle.rec_rerun.specs.Standings.{LogEvent}

pub loop-event-preserved : goal.loop-event-preserved
loop-event-preserved c = λ parent none.
    let events = c.args.events.now in
    let i = c.loop-event.event-index in
    let event = c.event-item.result in
    subst (λ (es : List LogEvent). HasTaken parent es c.add_event.new.self.standings.tests)
    (sym (take_more events i event c.loop-event-test.true c.event-item.is))
    (c.in_ok-add_event.ensures parent (take i events) (c.loop-event.invariant parent none))

pub returns : goal.returns
returns c = λ parent none.
    subst (λ (es : List LogEvent). HasTaken parent es c.loop-event.self.standings.tests)
    (take_all c.loop-event.event-index c.args.events.now c.loop-event-test.false)
    (c.loop-event.invariant parent none)
