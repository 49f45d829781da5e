use Rattle.rec_view.proofs.AllSlices.{pauses_are}
use Rattle.rec_view.proofs.laws.pauses_are_windows.Goals as goal

pub returns : goal.returns
returns c = λ history w. pauses_are history w
