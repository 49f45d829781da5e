use Rattle.std.proofs.Common.{◌≤◌, drop, length}
use Rattle.rec_view.proofs.scripts.scripts_of.Given as goal
use Rattle.rec_view.specs.Scripts.{script_acts}
use Rattle.rec_view.specs.ScriptsWalked.{HasScripts}

-- the scripts that start from an event on are known
abbrev pub invariant-loop-at : goal.invariant-loop-at
invariant-loop-at g l = record {
  within : l.at ≤ length l.events;
  known : HasScripts l.at (drop l.at (script_acts l.events)) l.scripts;
}

abbrev pub decreases-loop-at : goal.decreases-loop-at
decreases-loop-at g l = l.at
