use Rattle.std.proofs.Common.{◌≡◌, rules, [], ◌∷◌, ◌++◌, map}
use Rattle.json.specs.Token.{begin_array}
use Rattle.serde_json.specs.Data.{string}
use Rattle.rec_json.specs.Tokens.{with_items}
use Rattle.rec_forms.proofs.test_names.TestNamesForm.write.Goals as goal

pub returns-clause-written : goal.returns-clause-written
returns-clause-written c =
    let all : c.loop-name.text
    ≡ with_items (c.args.text.now ++ begin_array ∷ []) (map string c.args.self.now) =
    search rules in
    c.in_ok-end_list.ensures c.args.text.now (map string c.args.self.now) all
