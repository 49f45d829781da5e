use Rattle.std.proofs.Common.{inl}
use Rattle.rec_program.proofs.program.salvage.Goals as goal

pub returns-in-Ok : goal.returns-in-Ok
returns-in-Ok g c = inl (c.in-Ok.counted.salvaged, c.in-Ok.ensures.ok, c.write_salvaged.ensures)
