use Rattle.rec_portable.proofs.Components.{are_components}
use Rattle.rec_portable.proofs.laws.parts_are_components.Goals as goal

pub returns : goal.returns
returns c = are_components
