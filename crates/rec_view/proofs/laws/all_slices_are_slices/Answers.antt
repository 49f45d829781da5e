use Rattle.rec_view.proofs.AllSlices.{all_are}
use Rattle.rec_view.proofs.laws.all_slices_are_slices.Goals as goal

pub returns : goal.returns
returns c = λ history a z x y order last. all_are history a z order last x y
