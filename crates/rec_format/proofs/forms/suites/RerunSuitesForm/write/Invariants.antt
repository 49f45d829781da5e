use Rattle.std.proofs.Common.{◌≡◌, [], ◌∷◌, ◌++◌, map}
use Rattle.std.specs.List.{AllByRecursion}
use Rattle.json.specs.Token.{begin_array}
use Rattle.rec_json.specs.Tokens.{with_items}
use Rattle.rec_format.proofs.forms.suites.RerunSuitesForm.write.Given as goal
use Rattle.rec_format.specs.SuiteForms.{suite_value, IsSuite}

-- what is left completes the list
abbrev pub invariant-loop-suite : goal.invariant-loop-suite
invariant-loop-suite l = record {
  written : with_items l.text (map suite_value l.suite-iterator)
      ≡ with_items (l.fn.text ++ begin_array ∷ []) (map suite_value l.fn.self);
  known : AllByRecursion IsSuite l.suite-iterator → AllByRecursion IsSuite l.fn.self;
}
