use Rattle.rec_spans.proofs.laws.slices.Goals as goal
use Rattle.rec_spans.proofs.Slices.{begins-are_slices, ends-are_slices}

pub returns-clause-begins : goal.returns-clause-begins
returns-clause-begins c = begins-are_slices

pub returns-clause-ends : goal.returns-clause-ends
returns-clause-ends c = ends-are_slices
