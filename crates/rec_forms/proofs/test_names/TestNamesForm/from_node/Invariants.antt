use Rattle.std.proofs.Common.{◌≡◌, []}
use Rattle.std.specs.Vec.Iter.{into_iter_items}
use Rattle.rec_forms.proofs.test_names.TestNamesForm.from_node.Given as goal
use Rattle.rec_forms.specs.Names.{merged}

-- what is left completes the set
abbrev pub invariant-loop-name : goal.invariant-loop-name
invariant-loop-name l =
    merged l.set (into_iter_items l.name-iterator)
    ≡ merged [] (into_iter_items l.initial.name-iterator)
