-- What the code sees of an event, as the definitions see it.
use Rattle.rec_slots.specs.Acts.Act.{RunStarts, RunEnds, Starts, Ends, Silent}
use Rattle.rec_slots.specs.Acts.{Act}
use Rattle.rec_slots.specs.declared.acts.Act as declared
use Rattle.rec_slots.specs.declared.acts.Act.TheVariants as code

abbrev pub seen : declared.Act → Act
seen code.RunStarts = RunStarts
seen code.RunEnds = RunEnds
seen (code.Starts slot) = Starts slot
seen (code.Ends test) = Ends test.now
seen code.Silent = Silent
