-- Arrows start and finish at slices of one test, as a viewer reads them.
use Rattle.std.specs.Bool.{⊤}
use Rattle.std.specs.Prelude.{◌≡◌, ℕ, ℤ, List, [], ◌∷◌, ◌++◌, Some, codes}
use Rattle.serde_json.specs.Data.{Data}
use Rattle.rec_trace_events.specs.declared.rows.Row.{Row}
use Rattle.rec_trace_events.specs.ReadEvents.{ReadEvent, event_read, test_in_args}
use Rattle.rec_spans.specs.Positions.{Has}

-- one of these trace events has this phase, stands on this row at this instant,
-- and names this test in its args
abbrev pub StandsAt : List Data → List ℕ → Row → ℤ → List ℕ × List ℕ → Type 0
StandsAt items phase row at test =
    (d : Data) × (e : ReadEvent)
    × Has items d
    × (event_read d ≡ Some e)
    × (e.phase ≡ phase)
    × (e.row ≡ row)
    × (e.at ≡ at)
    × (test_in_args d ≡ Some test)

-- a start of an arrow stands where and when a slice of the test of its number ended before it, a
-- finish where and when one began
abbrev pub ArrowAtSlice : (ℕ → List ℕ × List ℕ) → List Data → Data → Type 0
ArrowAtSlice test before d =
    (e : ReadEvent) (number : ℕ) → event_read d ≡ Some e → e.id ≡ Some number →
    (e.phase ≡ codes "s" → StandsAt before (codes "E") e.row e.at (test number))
    × (e.phase ≡ codes "f" → StandsAt before (codes "B") e.row e.at (test number))

-- so do all arrows among these trace events, after those before them
abbrev pub ArrowsAtSlices : (ℕ → List ℕ × List ℕ) → List Data → List Data → Type 0
ArrowsAtSlices test before [] = ⊤
ArrowsAtSlices test before (d ∷ ds) =
    ArrowAtSlice test before d × ArrowsAtSlices test (before ++ d ∷ []) ds
