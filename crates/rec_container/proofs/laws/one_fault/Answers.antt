use Rattle.rec_container.proofs.laws.one_fault.Goals as goal
use Rattle.rec_container.proofs.Unique.{no_fault, one_fault}

pub returns-clause-spelled : goal.returns-clause-spelled
returns-clause-spelled c = no_fault

pub returns-clause-others : goal.returns-clause-others
returns-clause-others c = one_fault
