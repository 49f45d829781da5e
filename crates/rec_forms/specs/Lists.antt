-- Lists, and the values of their items.
use Rattle.std.specs.Prelude.{List, [], ◌∷◌, length, Option, Some}
use Rattle.std.specs.Prelude.{option_map, option_and_then, nat_lt}
use Rattle.serde_json.specs.Data.{Data, Items, no_items, item}
use Rattle.serde_json.specs.Find.{as_array}
pub use Rattle.rec_json.specs.Fields.{list_value}
use Rattle.rec_forms.specs.Shape.{only}

abbrev pub each : {T : Type 0} → (Data → Option T) → Items → Option (List T)
each form no_items = Some []
each form (item d ds) = option_and_then (λ x. option_map (λ xs. x ∷ xs) (each form ds)) (form d)

abbrev pub list_form : {T : Type 0} → (Data → Option T) → Data → Option (List T)
list_form form d = option_and_then (each form) (as_array d)

-- a list that is not empty
abbrev pub some_form : {T : Type 0} → (Data → Option T) → Data → Option (List T)
some_form form d = option_and_then (λ xs. only (nat_lt 0 (length xs)) xs) (list_form form d)
