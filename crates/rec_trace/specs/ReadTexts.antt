-- The trace events that a text is read as: the items of the member `traceEvents` of its object.
use Rattle.std.specs.Prelude.{ℕ, List, [], ◌∷◌, Option, codes, option_and_then, option_map}
use Rattle.serde_json.specs.Data.{Data, Items, item, no_items}
use Rattle.serde_json.specs.Find.{as_array, get}
use Rattle.serde_json.specs.Read.{read}

abbrev pub list_of : Items → List Data
list_of no_items = []
list_of (item d ds) = d ∷ list_of ds

abbrev pub events_in : List ℕ → Option (List Data)
events_in text =
    option_map list_of
    (option_and_then as_array (option_and_then (get (codes "traceEvents")) (read text)))
