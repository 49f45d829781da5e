use Rattle.std.proofs.Common.{◌∷◌}
use Rattle.rec_container.proofs.laws.one_whole_prefix.Goals as goal
use Rattle.rec_container.proofs.WholePrefixes.{prefix_longest, prefix_one}
use Rattle.rec_container.proofs.WholePrefixes.{stopped_prefix, spelled_prefix}

pub returns-clause-longest : goal.returns-clause-longest
returns-clause-longest c = λ bytes more es fs. prefix_longest bytes es fs more

pub returns-clause-stopped : goal.returns-clause-stopped
returns-clause-stopped c = λ d e es k. stopped_prefix (d ∷ es) e k

pub returns-clause-ended : goal.returns-clause-ended
returns-clause-ended c = spelled_prefix

pub returns-clause-one : goal.returns-clause-one
returns-clause-one c = prefix_one
