use Rattle.std.proofs.Common.{◌≡◌, Some, subst, sym, ◌⊎◌}
use Rattle.std.specs.Option.{option_map}
use Rattle.rec_container.specs.Memory.{GrowingSinkState}
use Rattle.rec_store.specs.Bundle.{outputs_stored}
use Rattle.rec_store.specs.Clashes.{clash}
use Rattle.rec_store.specs.EventOutputs.{event_entries}
use Rattle.rec_errors.specs.declared.export_error.RecordExportError.TheVariants.{
  NameCollision,
  OutOfMemory,
}
use Rattle.rec_errors.specs.declared.export_error.RecordExportError.{RecordExportError}
use Rattle.rec_export.proofs.record.record_traced.Goals as goal
use Rattle.rec_export.proofs.Recorded.{never, no_clash, recorded_more, refused_event}
use Rattle.rec_export.proofs.Recorded.{sound_logged, text_taken, unknown}
use Rattle.rec_export.proofs.RecorderFaults.{event_comes}

pub event_refusal-requires : goal.event_refusal-requires
event_refusal-requires g c =
    event_comes unknown never c.args.recorder.now c.write_event.new.self c.requires.sound text_taken
    (λ (b : GrowingSinkState). b.faults)
    g.N.OutputNamer.number c.args.event c.requires.loaded c.in-Err.error c.in-Err.ensures.err

pub returns-in-Ok-clause-sound : goal.returns-in-Ok-clause-sound
returns-in-Ok-clause-sound g c =
    sound_logged g.N.OutputNamer.number unknown never (λ (b : GrowingSinkState). b.faults)
    c.args.event c.args.recorder.now c.write_event.new.self c.in-Ok.ensures.ok

pub returns-in-Ok-clause-recorded : goal.returns-in-Ok-clause-recorded
returns-in-Ok-clause-recorded g c = λ head events has.
    let number = g.N.OutputNamer.number in
    let logs = c.in-Ok.ensures.ok in (
      no_clash number unknown never (λ (b : GrowingSinkState). b.faults)
          head events c.args.event c.args.recorder.now c.write_event.new.self has logs.2,
      recorded_more number unknown never (λ (b : GrowingSinkState). b.faults) head events
          c.args.event c.args.recorder.now c.write_event.new.self has logs c.in-Ok.ensures.logged,
    )

pub returns-in-Err-clause-recorded : goal.returns-in-Err-clause-recorded
returns-in-Err-clause-recorded g c = λ head events has.
    let number = g.N.OutputNamer.number in
    let old = c.args.recorder.now in
    let found = clash (outputs_stored (number old.namer) old.max_output events)
    (event_entries (number old.namer) old.max_output c.args.event) in
    subst (λ (e : RecordExportError). (e ≡ OutOfMemory) ⊎ (option_map NameCollision found ≡ Some e))
    (sym c.event_refusal.ensures)
    (refused_event number unknown never (λ (b : GrowingSinkState). b.faults)
    head events c.args.event old c.write_event.new.self has c.in-Err.error c.in-Err.ensures.err)
