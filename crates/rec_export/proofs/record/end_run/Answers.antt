use Rattle.std.proofs.Common.{ap, sym, subst, ◌∙◌}
use Rattle.rec_container.specs.Memory.{GrowingSinkState}
use Rattle.rec_container.specs.Writing.{Writing}
use Rattle.rec_export.proofs.record.end_run.Goals as goal
use Rattle.rec_export.proofs.Recorded.{never, taken_apart, unknown}
use Rattle.rec_export.specs.declared.discarding.DiscardingSink.{DiscardingSink}
use Rattle.rec_export.specs.Recorded.{IsRunOf}
use Rattle.rec_export.specs.Sizes.{entries_refusal}

pub returns-clause-run : goal.returns-clause-run
returns-clause-run g c = λ namer m head events has.
    let number = g.N.OutputNamer.number in
    let sizes = c.sizes-sizes.result in
    let parts = c.into_parts-store in
    let run = taken_apart number unknown never head namer m events c.args.recorder sizes has
    c.sizes-sizes.ensures.sound c.sizes-sizes.ensures.sizes in
    subst (λ (store : Writing DiscardingSink). IsRunOf (number namer) m head events store.entries
    parts.result.1.bytes (record { log = sizes.log; store = sizes.store }))
    (sym parts.ensures.store)
    (subst (λ (log : GrowingSinkState). IsRunOf (number namer) m head events
    c.args.recorder.store.entries log.bytes (record { log = sizes.log; store = sizes.store }))
    (sym parts.ensures.log) run)

pub returns-clause-too_large : goal.returns-clause-too_large
returns-clause-too_large g c = λ namer m head events has.
    c.in-Ok.ensures ∙ ap (entries_refusal c.args.limit)
    (ap (λ (w : Writing DiscardingSink). w.entries) c.store.ensures ∙ has.entries_stored)
