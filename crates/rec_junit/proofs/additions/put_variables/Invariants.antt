use Rattle.std.proofs.Common.{◌≡◌, ◌++◌, Some}
use Rattle.rec_events.specs.Pairs.{pairs}
use Rattle.rec_junit.proofs.additions.put_variables.Given as goal
use Rattle.rec_junit.specs.Additions.{variables}

-- what is left completes the properties
abbrev pub invariant-loop-name : goal.invariant-loop-name
invariant-loop-name l =
    l.properties.items ++ variables (Some (pairs l.name-iterator))
    ≡ l.fn.properties.items ++ variables (Some l.fn.env_map)
