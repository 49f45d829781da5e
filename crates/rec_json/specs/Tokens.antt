-- The tokens that are written for a value, for the fields of an object and for the items of a list.
use Rattle.std.specs.Prelude.{ℕ, List, [], ◌∷◌, ◌++◌, Option, Some, None}
use Rattle.json.specs.Token.{Token, key}
use Rattle.json.specs.Tree.{json_tokens}
use Rattle.serde_json.specs.Data.{Data}
use Rattle.serde_json.specs.Written.{outline}
use Rattle.rec_json.specs.Fields.{Field}

unfoldable pub value_tokens : Data → List Token
value_tokens d = json_tokens (outline d)

-- what is written after these tokens: a field, fields one after another, items one after another
abbrev pub with_field : List ℕ → Option Data → List Token → List Token
with_field k None ts = ts
with_field k (Some d) ts = (ts ++ key k ∷ []) ++ value_tokens d

abbrev pub with_fields : List Token → List Field → List Token
with_fields ts [] = ts
with_fields ts (f ∷ fs) = with_fields (with_field f.0 f.1 ts) fs

abbrev pub with_items : List Token → List Data → List Token
with_items ts [] = ts
with_items ts (d ∷ ds) = with_items (ts ++ value_tokens d) ds
