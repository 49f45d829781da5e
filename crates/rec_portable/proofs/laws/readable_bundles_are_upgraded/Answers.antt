use Rattle.rec_portable.proofs.AcceptedRuns.{upgradable_accepted, upgradable_not_refused}
use Rattle.rec_portable.proofs.laws.readable_bundles_are_upgraded.Goals as goal

pub returns-clause-accepted : goal.returns-clause-accepted
returns-clause-accepted c = upgradable_accepted

pub returns-clause-refused : goal.returns-clause-refused
returns-clause-refused c bytes limit run e u = upgradable_not_refused bytes limit run u e
