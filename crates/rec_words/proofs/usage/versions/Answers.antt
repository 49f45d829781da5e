-- The text of the versions computes.
use Rattle.std.proofs.Common.{refl}
use Rattle.std.specs.Fmt.{digits}
use Rattle.rec_words.proofs.usage.versions.Goals as goal

pub returns : goal.returns
unfolding digits
returns c = refl
