-- Begins and ends of one row take turns.
use Rattle.std.specs.Prelude.{◌≡◌, ℕ, Bool, List, [], ◌∷◌, filter}
use Rattle.std.specs.Prelude.{Option, Some, None, if◌then◌else◌}
use Rattle.rec_trace_events.specs.declared.rows.Row.{Row}
use Rattle.rec_spans.specs.declared.spans.Phase.TheVariants.{Begin, End}
use Rattle.rec_spans.specs.declared.spans.Span.{Span}
use Rattle.rec_spans.specs.Keys.{row_eq}
use Rattle.rec_spans.specs.Past.{Mark}

-- the begins and ends of a row
abbrev pub on_row : Row → List Mark → List Mark
on_row r ms = filter (λ m. row_eq m.span.row r) ms

-- begins and ends alternate, and an end has the name of the begin before it. The first name is that
-- of the begin that was left open before them, the last that of the begin that they leave open
abbrev pub TakeTurns : Option (List ℕ) → List Mark → Option (List ℕ) → Type 0
TakeTurns before [] after = after ≡ before
TakeTurns None (m ∷ ms) after = (m.phase ≡ Begin) × TakeTurns (Some m.span.name) ms after
TakeTurns (Some name) (m ∷ ms) after =
    (m.phase ≡ End) × (m.span.name ≡ name) × TakeTurns None ms after

-- the name of the first of these spans
abbrev pub name_of : List Span → Option (List ℕ)
name_of [] = None
name_of (s ∷ spans) = Some s.name

-- what a row leaves open: nothing in a pause, else the begin of the span that is open on it
abbrev pub left_open : Bool → List Span → Option (List ℕ)
left_open in_pause spans = if in_pause then None else name_of spans
