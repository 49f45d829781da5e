use Rattle.rec_view.proofs.AttemptSpans.{has_span}
use Rattle.rec_view.proofs.laws.attempts_as_spans.Goals as goal

pub returns : goal.returns
returns g c = λ group events t k h. has_span group t events k h
