use Rattle.std.specs.Prelude.{refl}
use Rattle.rec_forms.proofs.selections.TargetSelectionForm.from_node.Goals as goal
use Rattle.rec_forms.specs.Selections.{target_selection_form}

pub returns : goal.returns
unfolding target_selection_form
returns c =
    let first = c.in_ok-lib.ensures in
    let second = c.in_ok-examples.ensures in
    let bins = rw c.none.ensures at first.2 in
    let examples = rw c.none-2.ensures at second.0 in
    let tests = rw c.none-3.ensures at second.1 in
    let benches = rw c.none-4.ensures at second.2 in
    record {
      read_node = rw (← c.in-Some.ensures, first.0, first.1, bins, examples, tests, benches) refl;
    }
