use Rattle.rec_trace.proofs.KnownByPlaces.{known-by_places}
use Rattle.rec_trace.proofs.laws.known_by_places.Goals as goal

pub returns : goal.returns
returns c = known-by_places
