use Rattle.rec_view.proofs.laws.scripts_by_position.Goals as goal
use Rattle.rec_view.proofs.ScriptPositions.{in_order, scripts_are}

pub returns-clause-scripts : goal.returns-clause-scripts
returns-clause-scripts c = λ all s. scripts_are all s

pub returns-clause-order : goal.returns-clause-order
returns-clause-order c = λ all. in_order 0 all
