-- Whether outputs are loaded.
use Rattle.rec_replay.specs.declared.output_load.LoadOutput.TheVariants.{Load, Skip}
use Rattle.rec_replay.specs.declared.output_load.LoadOutput.{LoadOutput}
use Rattle.rec_replay.specs.declared.output_load.OutputLoadDecider.TheVariants.{Always, Never}
use Rattle.rec_replay.specs.declared.output_load.OutputLoadDecider.{OutputLoadDecider}

abbrev pub load_of : OutputLoadDecider → LoadOutput
load_of Always = Load
load_of Never = Skip
