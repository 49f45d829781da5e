-- The values and forms of maps from texts.
use Rattle.std.specs.List.{AllByRecursion}
use Rattle.std.specs.Prelude.{ℕ, List, [], ◌∷◌, map, Option, Some}
use Rattle.std.specs.Prelude.{None, option_and_then, if◌then◌else◌}
use Rattle.std.specs.Str.{is_utf8}
use Rattle.serde_json.specs.Data.{Data, Members, no_members, member}
use Rattle.serde_json.specs.Find.{as_object}
use Rattle.rec_events.specs.Names.{AreTexts}
use Rattle.rec_events.specs.Pairs.{keys, put_pair, KeysRise}
use Rattle.rec_forms.specs.Shape.{Field, field, struct}

-- the pairs as fields
abbrev pub map_fields : {V : Type 0} → (V → Data) → List (List ℕ × V) → List Field
map_fields value [] = []
map_fields value (p ∷ ps) = field p.0 (value p.1) ∷ map_fields value ps

abbrev pub map_value : {V : Type 0} → (V → Data) → List (List ℕ × V) → Data
map_value value ps = struct (map_fields value ps)

-- the members put as pairs, one after another, into those that are there
abbrev pub pairs_form : {V : Type 0} → (Data → Option V) → List (List ℕ × V) → Members
    → Option (List (List ℕ × V))
pairs_form form ps no_members = Some ps
pairs_form form ps (member k d ms) =
    if is_utf8 k then option_and_then (λ x. pairs_form form (put_pair k x ps) ms) (form d) else None

abbrev pub map_form : {V : Type 0} → (Data → Option V) → Data → Option (List (List ℕ × V))
map_form form d = option_and_then (pairs_form form []) (as_object d)

abbrev pub each_value : {V : Type 0} → List (List ℕ × V) → List V
each_value ps = map (λ p. p.1) ps

-- a map of such values
pub record IsMap {V : Type 0} (P : V → Type 0) (ps : List (List ℕ × V)) : Type 0 where
  pub texts : AreTexts (keys ps)
  pub rise : KeysRise ps
  pub values : AllByRecursion P (each_value ps)
