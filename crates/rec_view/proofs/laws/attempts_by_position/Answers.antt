use Rattle.rec_view.proofs.AttemptPositions.{attempts_are}
use Rattle.rec_view.proofs.laws.attempts_by_position.Goals as goal

pub returns : goal.returns
returns c = λ all p stands k. attempts_are all p stands k
