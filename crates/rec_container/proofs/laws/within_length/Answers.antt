use Rattle.rec_container.proofs.laws.within_length.Goals as goal
use Rattle.rec_container.proofs.Lengths.{content_bytes-below, length-below}

pub returns-clause-contents : goal.returns-clause-contents
returns-clause-contents c = content_bytes-below

pub returns-clause-entries : goal.returns-clause-entries
returns-clause-entries c = length-below
