use Rattle.std.proofs.Common.{Some, sym, subst}
use Rattle.rec_container.specs.Memory.{GrowingSinkState}
use Rattle.rec_store.specs.Namer.{sha256_number}
use Rattle.rec_errors.specs.declared.export_error.RecordExportError.{RecordExportError}
use Rattle.rec_program.proofs.sample.export_made.Goals as goal
use Rattle.rec_program.proofs.SamplesRecorded.{failed}
use Rattle.rec_program.specs.Samples.{SampleFails}

pub returns-clause-err : goal.returns-clause-err
returns-clause-err g c =
    let now = c.record_and_export.new in
    subst (λ (e : RecordExportError). SampleFails g.B.Sink.taken g.B.Sink.faults sha256_number
    c.args.settings.now c.args.session.now c.args.bundle.now now.bundle e)
    (sym c.made_error.ensures)
    (failed g.B.Sink.taken g.B.Sink.faults (λ (s : GrowingSinkState). Some s.bytes)
    (λ (s : GrowingSinkState). s.faults) sha256_number c.args.settings.now c.args.session.now
    c.new-source.result now.source c.args.bundle.now now.bundle c.new-trace.result now.trace
    c.new-source.ensures c.in-Err.error c.in-Err.ensures.err)
