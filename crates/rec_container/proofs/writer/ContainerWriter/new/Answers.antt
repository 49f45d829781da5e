use Rattle.std.proofs.Common.{sym, refl, arith}
use Rattle.rec_container.proofs.Lengths.{length-spell-nil}
use Rattle.rec_container.proofs.writer.ContainerWriter.new.Goals as goal

pub invariant_of-result : goal.invariant_of-result
invariant_of-result g c = rw c.new.ensures.empty (record {
  entries = tt;
  sizes = record { size = sym length-spell-nil; contents = refl; below = omega arith };
})
