use Rattle.rec_view.proofs.Ends.{end_is}
use Rattle.rec_view.proofs.laws.attempt_ends.Goals as goal
use Rattle.rec_view.specs.Attempts.{cuts}

pub returns : goal.returns
returns c = λ all t k. end_is (cuts t) all k
