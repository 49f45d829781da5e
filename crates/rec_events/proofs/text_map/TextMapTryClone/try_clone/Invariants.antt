use Rattle.std.proofs.Common.{◌≡◌, ◌++◌}
use Rattle.rec_events.proofs.text_map.TextMapTryClone.try_clone.Given as goal
use Rattle.rec_events.specs.Pairs.{pairs, KeysRise}

-- what is left completes the copy
abbrev pub invariant-loop-key : goal.invariant-loop-key
invariant-loop-key g l = (l.copy ++ pairs l.key-iterator ≡ l.fn.self) × KeysRise l.fn.self
