-- What the code sees of an event, as the definitions see it.
use Rattle.rec_rerun.specs.Acts.Act.{Starts, Ends, Silent}
use Rattle.rec_rerun.specs.Acts.{Act}
use Rattle.rec_rerun.specs.declared.acts.Act as declared
use Rattle.rec_rerun.specs.declared.acts.Act.TheVariants as code

abbrev pub seen : declared.Act → Act
seen (code.Starts test) = Starts test.now
seen (code.Ends test passed) = Ends test.now passed
seen code.Silent = Silent
