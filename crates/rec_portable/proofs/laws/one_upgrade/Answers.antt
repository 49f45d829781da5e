use Rattle.rec_portable.proofs.laws.one_upgrade.Goals as goal
use Rattle.rec_portable.proofs.OneUpgrade.{accepted_not_refused, one_accepted, one_refused}

pub returns-clause-accepted : goal.returns-clause-accepted
returns-clause-accepted c = one_accepted

pub returns-clause-refused : goal.returns-clause-refused
returns-clause-refused c = one_refused

pub returns-clause-either : goal.returns-clause-either
returns-clause-either c = accepted_not_refused
