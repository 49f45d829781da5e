use Rattle.rec_container.proofs.laws.one_spelling.Goals as goal
use Rattle.rec_container.proofs.Spelling.{prefix-push, prefix-ending}

pub returns-clause-push : goal.returns-clause-push
returns-clause-push c = prefix-push

pub returns-clause-end : goal.returns-clause-end
returns-clause-end c = prefix-ending
