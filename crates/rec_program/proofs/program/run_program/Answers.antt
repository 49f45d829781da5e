use Rattle.rec_store.specs.Namer.{sha256_number}
use Rattle.rec_program.proofs.FaultyWords.{two_is_faulty}
use Rattle.rec_program.proofs.program.run_program.Goals as goal
use Rattle.rec_program.proofs.Promised.{accepted, completed, drawn_again, stopped}
use Rattle.rec_program.proofs.Promised.{refused, succeeded, told_or_failed}
use Rattle.rec_program.specs.Objects.{lent}

pub returns-clause-succeeds : goal.returns-clause-succeeds
returns-clause-succeeds g c =
    succeeded (lent g.S.Source g.B.Sink g.F.Sink g.D.Disk g.T.Sink g.G.Sink c.args.streams
    c.run.result.streams)
    c.run.result.status sha256_number _ c.run.ensures.runs

pub returns-clause-stops : goal.returns-clause-stops
returns-clause-stops g c =
    stopped (lent g.S.Source g.B.Sink g.F.Sink g.D.Disk g.T.Sink g.G.Sink c.args.streams
    c.run.result.streams)
    c.run.result.status sha256_number _ c.run.ensures.runs

pub returns-clause-faulty_words : goal.returns-clause-faulty_words
returns-clause-faulty_words g c =
    two_is_faulty (lent g.S.Source g.B.Sink g.F.Sink g.D.Disk g.T.Sink g.G.Sink c.args.streams
    c.run.result.streams)
    c.run.result.status sha256_number _ c.run.ensures.runs

pub returns-clause-completes : goal.returns-clause-completes
returns-clause-completes g c =
    completed (lent g.S.Source g.B.Sink g.F.Sink g.D.Disk g.T.Sink g.G.Sink c.args.streams
    c.run.result.streams)
    c.run.result.status sha256_number _ c.run.ensures.runs

pub returns-clause-upgradable : goal.returns-clause-upgradable
returns-clause-upgradable g c = λ path settings bytes run short is.
    (short, (is.parts, c.readable_bundles_are_upgraded.ensures.accepted bytes _ run is))

pub returns-clause-redrawn : goal.returns-clause-redrawn
returns-clause-redrawn g c =
    drawn_again (lent g.S.Source g.B.Sink g.F.Sink g.D.Disk g.T.Sink g.G.Sink c.args.streams
    c.run.result.streams)
    c.run.result.status sha256_number _ c.run.ensures.runs

pub returns-clause-accepts : goal.returns-clause-accepts
returns-clause-accepts g c =
    accepted (lent g.S.Source g.B.Sink g.F.Sink g.D.Disk g.T.Sink g.G.Sink c.args.streams
    c.run.result.streams)
    c.run.result.status sha256_number _ c.run.ensures.runs

pub returns-clause-told : goal.returns-clause-told
returns-clause-told g c =
    told_or_failed (lent g.S.Source g.B.Sink g.F.Sink g.D.Disk g.T.Sink g.G.Sink c.args.streams
    c.run.result.streams)
    c.run.result.status sha256_number _ c.run.ensures.runs

pub returns-clause-refuses : goal.returns-clause-refuses
returns-clause-refuses g c =
    refused (lent g.S.Source g.B.Sink g.F.Sink g.D.Disk g.T.Sink g.G.Sink c.args.streams
    c.run.result.streams)
    c.run.result.status sha256_number _ c.run.ensures.runs
