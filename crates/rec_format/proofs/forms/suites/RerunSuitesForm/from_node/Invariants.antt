use Rattle.std.proofs.Common.{◌≡◌, [], drop}
use Rattle.rec_json.specs.Nodes.{items_view}
use Rattle.rec_format.proofs.forms.suites.RerunSuitesForm.from_node.Given as goal
use Rattle.rec_format.specs.SuiteForms.{suites_from}

-- what is left completes the suites
abbrev pub invariant-loop-node : goal.invariant-loop-node
invariant-loop-node l =
    suites_from [] (items_view l.nodes)
    ≡ suites_from l.suites (items_view (drop l.node-index l.nodes))
