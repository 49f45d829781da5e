-- Which gaps of a history lie outside pauses, as they are kept, and how slices are cut of them.
use Rattle.std.specs.Option.{unwrap_or}
use Rattle.std.specs.Prelude.{◌≡◌, ◌<◌, ◌≤◌, ◌-◌, ℕ, Bool, true, false, not, List, ◌++◌, length}
use Rattle.std.specs.Prelude.{map}
use Rattle.std.specs.Prelude.{slice_get, Some, None}
use Rattle.rec_spans.specs.Acts.{Act}
use Rattle.rec_spans.specs.declared.settings.ChromeTraceGroupBy.{ChromeTraceGroupBy}
use Rattle.rec_spans.specs.Kinds.{change_of}
use Rattle.rec_spans.specs.Past.{TraceInput, pause_after}
use Rattle.rec_view.specs.declared.shown_gaps.Cutter.{Cutter}
use Rattle.rec_view.specs.declared.shown_gaps.ShownGaps.{ShownGaps}
use Rattle.rec_view.specs.declared.shown_gaps.Slice.{Slice}
use Rattle.rec_view.specs.Slices.{close, shown, stretches}

-- for each of the first n events, whether the run is outside pauses after it
pub record AreShown (history : List TraceInput) (n : ℕ) (gaps : List Bool) : Type 0 where
  pub many : length gaps ≡ n
  pub each : (j : ℕ) → j < n → slice_get gaps j ≡ Some (shown history j)

-- the gaps from one on, up to a position, are all in a pause or all outside
pub record IsRunEnd (gaps : List Bool) (at end : ℕ) : Type 0 where
  pub later : at < end
  pub within : end ≤ length gaps
  pub alike : (j : ℕ) → at ≤ j → j < end → slice_get gaps j ≡ slice_get gaps at

-- for the last i gaps, the last one first, where such a run ends
pub record AreEndsOf (gaps : List Bool) (i : ℕ) (ends : List ℕ) : Type 0 where
  pub many : length ends ≡ i
  pub each : (m : ℕ) → m < i
      → (end : ℕ) × (slice_get ends m ≡ Some end) × IsRunEnd gaps ((length gaps - 1) - m) end

abbrev pub AreEnds : List Bool → List ℕ → Type 0
AreEnds gaps ends = AreEndsOf gaps (length gaps) ends

-- what is kept of the gaps of a history
pub record AreGaps (history : List TraceInput) (g : ShownGaps) : Type 0 where
  pub shown : AreShown history (length history) g.shown.items
  pub ends : AreEnds g.shown.items g.ends.items

-- a gap is of the wanted kind: outside pauses, or in one
abbrev pub is_wanted : Bool → Bool → Bool
is_wanted true is_shown = is_shown
is_wanted false is_shown = not is_shown

abbrev pub passes_for : Bool → List TraceInput → ℕ → Bool
passes_for wanted history j = is_wanted wanted (shown history j)

-- whether the run is in a pause after an act, by whether it was in one before
abbrev pub PausesBy : Act → Bool → Bool → Type 0
PausesBy act before after =
    (g : ChromeTraceGroupBy) (seen : List (List ℕ × ℕ))
    → after ≡ pause_after (change_of g seen act) before

-- the positions of a slice
abbrev pub pair : Slice → ℕ × ℕ
pair s = (s.from, s.to)

abbrev pub pairs : List Slice → List (ℕ × ℕ)
pairs xs = map pair xs

-- the stretch that is held, if one is, ends at a position
pub record Closes (at : ℕ) (old new : Cutter) : Type 0 where
  pub built : pairs new.slices.items ≡ pairs old.slices.items ++ close old.held at
  pub none : new.held ≡ None

-- slices are put behind the others
pub record Adds (more : List (ℕ × ℕ)) (old new : Cutter) : Type 0 where
  pub built : pairs new.slices.items ≡ pairs old.slices.items ++ more
  pub same : new.held ≡ old.held

-- the gap at a position is gone through
abbrev pub Passes : Bool → ℕ → Cutter → Cutter → Type 0
Passes true at old new =
    (new.slices ≡ old.slices) × (new.held ≡ Some (unwrap_or old.held at))
Passes false at old new = Closes at old new

-- with the n gaps from a position on, what is cut becomes this
abbrev pub Becomes : (ℕ → Bool) → Cutter → ℕ → ℕ → List (ℕ × ℕ) → Type 0
Becomes passes c at n all = pairs c.slices.items ++ stretches passes c.held at n ≡ all
