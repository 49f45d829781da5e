use Rattle.std.proofs.Common.{◌≡◌, rules, ℕ, List, [], ◌∷◌, ◌++◌, ap, refl}
use Rattle.json.specs.Token.{begin_object}
use Rattle.serde_json.specs.Data.{Data}
use Rattle.rec_json.specs.Fields.{KeysAscend, field_keys}
use Rattle.rec_json.specs.Tokens.{with_fields}
use Rattle.rec_events.specs.Pairs.{KeysRise, keys}
use Rattle.rec_forms.proofs.maps.TextMapForm.write.Goals as goal
use Rattle.rec_forms.specs.Maps.{map_fields}

field_keys-map_fields : {V : Type 0} (value : V → Data) (ps : List (List ℕ × V))
    → field_keys (map_fields value ps) ≡ keys ps
field_keys-map_fields value [] = refl
field_keys-map_fields value (p ∷ ps) = ap (λ ks. p.0 ∷ ks) (field_keys-map_fields value ps)

ascend : {V : Type 0} (value : V → Data) (ps : List (List ℕ × V)) → KeysRise ps
    → KeysAscend (map_fields value ps)
ascend value ps rise = rw (field_keys-map_fields value ps) rise

pub returns-clause-written : goal.returns-clause-written
returns-clause-written g c =
    let map = c.args.self.now in
    let fields = map_fields g.V.Form.value_of map in
    let all : c.loop-key.text ≡ with_fields (c.args.text.now ++ begin_object ∷ []) fields =
    search rules in
    c.in_ok-end_map.ensures c.args.text.now fields
    (ascend g.V.Form.value_of map c.as_map-key-items.ensures.rise) all
