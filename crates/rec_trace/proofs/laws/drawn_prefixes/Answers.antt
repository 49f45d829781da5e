use Rattle.rec_trace.proofs.laws.drawn_prefixes.Goals as goal
use Rattle.rec_trace.proofs.Prefixes.{keeps-drawn}
use Rattle.rec_trace.proofs.Pushes.{drawn-push, known-push}

pub returns-clause-drawn : goal.returns-clause-drawn
returns-clause-drawn c = drawn-push

pub returns-clause-known : goal.returns-clause-known
returns-clause-known c = known-push

pub returns-clause-kept : goal.returns-clause-kept
returns-clause-kept c = keeps-drawn
