use Rattle.rec_trace.proofs.printed_laws.arrows_at_slices.Goals as goal
use Rattle.rec_trace.proofs.ReadPlaces.{places-history}

pub returns : goal.returns
returns c = places-history
