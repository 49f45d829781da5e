use Rattle.rec_portable.proofs.UpgradeEnds.{upgrade_completes}
use Rattle.rec_portable.proofs.upgrades.upgrade.Goals as goal

pub returns-clause-complete : goal.returns-clause-complete
returns-clause-complete g c = λ bytes run has within upgradable source bundle.
    upgrade_completes g.S.Source.left g.S.Source.faults g.B.Sink.taken g.B.Sink.faults
    c.args.spool_limit c.args.read_limit
    c.args.source.now c.upgrade_from.new.source c.args.bundle.now c.upgrade_from.new.bundle bytes
    run has within upgradable source bundle
    c.upgrade_from.result c.upgrade_from.ensures.err
