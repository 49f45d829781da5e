-- The values and forms of sets of names.
use Rattle.std.specs.Prelude.{ℕ, List, [], ◌∷◌, Option, option_map}
use Rattle.serde_json.specs.Data.{Data, string}
use Rattle.rec_events.specs.Names.{AreTexts, Rise, with_name}
use Rattle.rec_forms.specs.Lists.{list_value, list_form}
use Rattle.rec_forms.specs.Shape.{text_of}

abbrev pub names_value : List (List ℕ) → Data
names_value = list_value string

-- the names put at their places, one after another, into those that are there
abbrev pub merged : List (List ℕ) → List (List ℕ) → List (List ℕ)
merged done [] = done
merged done (k ∷ ks) = merged (with_name done k) ks

-- the names may stand in any order, and repeats are merged
unfoldable pub names_form : Data → Option (List (List ℕ))
names_form d = option_map (merged []) (list_form text_of d)

pub record AreNames (ks : List (List ℕ)) : Type 0 where
  pub texts : AreTexts ks
  pub rise : Rise ks
