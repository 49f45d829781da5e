use Rattle.std.proofs.Common.{arith}
use Rattle.rec_events.proofs.output_bytes.known_octets.Goals as goal

pub returns-clause-octets : goal.returns-clause-octets
returns-clause-octets c = λ i. omega (arith, c.type_inv.bytes i)
