use Rattle.rec_export.proofs.Complete.{complete}
use Rattle.rec_export.proofs.export.record_and_export.Goals as goal

pub returns-clause-complete : goal.returns-clause-complete
returns-clause-complete g c = λ session has within valid source bundle trace.
    complete g.S.Source.left g.S.Source.faults g.B.Sink.taken g.B.Sink.faults g.T.Sink.taken
    g.T.Sink.faults (g.N.OutputNamer.number c.args.namer.now) c.args.settings.now
    c.args.source.now c.export.new.source c.args.bundle.now c.export.new.bundle c.args.trace.now
    c.export.new.trace session has within valid source bundle trace
    c.export.result c.export.ensures.err
