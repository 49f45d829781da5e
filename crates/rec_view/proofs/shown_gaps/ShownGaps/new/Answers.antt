use Rattle.std.proofs.Common.{◌≡◌, ◌∙◌, Bool, List, Some, add-one, arith, false, length, map}
use Rattle.std.proofs.Common.{slice_get, suc, subst, sym}
use Rattle.std.proofs.lemmas.List.{length-map}
use Rattle.rec_spans.specs.Plain.{plain}
use Rattle.rec_view.proofs.GapRuns.{gaps_kept}
use Rattle.rec_view.proofs.GapsShown.{Kept, got, kept_more, kept_none, some_mapped}
use Rattle.rec_view.proofs.shown_gaps.ShownGaps.new.Goals as goal

pub loop-event-init : goal.loop-event-init
loop-event-init g c =
    subst (λ (gaps : List Bool). Kept (map plain c.args.events.now) 0 false gaps)
    (sym c.new-shown.ensures.items) (kept_none (map plain c.args.events.now))

pub loop-event-preserved : goal.loop-event-preserved
loop-event-preserved g c =
    let events = c.args.events.now in
    let i = c.loop-event.event-index in
    let event = c.event-item.result in
    let after = c.pause_after-in_pause.result in
    let here : slice_get (map plain events) i ≡ Some (plain event) =
    some_mapped plain events i event
    (got events i event c.loop-event-test.true c.event-item.is) in
    subst (λ n. Kept (map plain events) n after c.push.new.self.items) (sym (add-one i))
    (subst (λ (gaps : List Bool). Kept (map plain events) (suc i) after gaps)
    (sym c.in_ok-push.ensures.items)
    (kept_more (map plain events) i (plain event) c.loop-event.in_pause after
    c.loop-event.shown.items here c.pause_after-in_pause.ensures c.loop-event.invariant))

pub returns : goal.returns
returns g c =
    let events = c.args.events.now in
    let end = c.loop-event.auto.event-index-end in
    let test = c.loop-event-test.false in
    let many : c.loop-event.event-index ≡ length events = omega (arith, end, test) in
    gaps_kept (map plain events) c.loop-event.event-index c.loop-event.in_pause
    c.as_slice.result.now (record { shown = c.loop-event.shown; ends = c.in_ok-ends.ends })
    (many ∙ sym (length-map events plain)) c.loop-event.invariant c.as_slice.ensures.value
    c.in_ok-ends.ensures
