use Rattle.std.proofs.Common.{◌≡◌, [], ◌∷◌, ◌++◌, map}
use Rattle.json.specs.Token.{begin_array}
use Rattle.serde_json.specs.Data.{string}
use Rattle.rec_json.specs.Tokens.{with_items}
use Rattle.rec_events.specs.Names.{texts}
use Rattle.rec_forms.proofs.test_names.TestNamesForm.write.Given as goal

-- what is left completes the list
abbrev pub invariant-loop-name : goal.invariant-loop-name
invariant-loop-name l =
    with_items l.text (map string (texts l.name-iterator))
    ≡ with_items (l.fn.text ++ begin_array ∷ []) (map string l.fn.self)
