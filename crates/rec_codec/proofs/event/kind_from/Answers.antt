use Rattle.std.proofs.Common.{refl}
use Rattle.rec_codec.proofs.event.kind_from.Goals as goal
use Rattle.rec_codec.specs.EventForms.{kind_form}

pub returns-in-Some : goal.returns-in-Some
unfolding kind_form
returns-in-Some g c = rw (← c.in-Some.ensures) c.kind_named.ensures

pub returns-in-None : goal.returns-in-None
unfolding kind_form
returns-in-None g c = rw (← c.in-None.ensures) refl
