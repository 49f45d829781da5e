use Rattle.rec_view.proofs.laws.of_one_test.Goals as goal
use Rattle.rec_view.proofs.OneTest.{of_one}

pub returns : goal.returns
returns c = λ all t k h. of_one all k t h
