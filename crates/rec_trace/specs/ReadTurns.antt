-- Begins and ends of slices take turns on each row, as they are read.
use Rattle.std.specs.Prelude.{◌≡◌, ℕ, List, [], ◌∷◌, filter, Option, Some, None, codes}
use Rattle.rec_trace_events.specs.declared.rows.Row.{Row}
use Rattle.rec_trace_events.specs.ReadEvents.{ReadEvent}
use Rattle.rec_spans.specs.Keys.{row_eq}

abbrev pub read_on_row : Row → List ReadEvent → List ReadEvent
read_on_row r es = filter (λ e. row_eq e.row r) es

-- begins and ends alternate, and an end has the name of the begin before it. The first name is that
-- of the begin that was left open before them, the last that of the begin that they leave open
abbrev pub ReadInTurns : Option (List ℕ) → List ReadEvent → Option (List ℕ) → Type 0
ReadInTurns before [] after = after ≡ before
ReadInTurns None (e ∷ es) after = (e.phase ≡ codes "B") × ReadInTurns (Some e.name) es after
ReadInTurns (Some name) (e ∷ es) after =
    (e.phase ≡ codes "E") × (e.name ≡ name) × ReadInTurns None es after
