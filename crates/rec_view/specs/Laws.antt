-- Laws of the tests of a history.
use Rattle.std.specs.Prelude.{◌≡◌, ◌≤◌, ℕ, ◌-ℤ◌, List, [], ◌∷◌}
use Rattle.std.specs.Prelude.{map}
use Rattle.rec_spans.specs.Past.{TraceInput}
use Rattle.rec_spans.specs.Times.{total}
use Rattle.rec_view.specs.Slices.{active, all_slices, lasting, moment, paused_for, slices}
use Rattle.rec_view.specs.Tests.{Place}

-- no test stands twice, and they stand in the order of the events that open them
abbrev pub Before : Place → List Place → Type 0
Before p [] = Unit {0}
Before p (q ∷ ps) = (p.at ≤ q.at) × ((p.at ≡ q.at → p.test ≡ q.test → ⊥) × Before p ps)

abbrev pub InOrder : List Place → Type 0
InOrder [] = Unit {0}
InOrder (p ∷ ps) = Before p ps × InOrder ps

-- the slices from a to z add up to the time outside pauses, with the instants in pauses or without
-- them; and that is the end less the start less the time in pauses
pub record SlicesAddUp (history : List TraceInput) (a z : ℕ) : Type 0 where
  pub sum : total (map (lasting (moment history)) (slices history a z)) ≡ active history a z
  pub all : total (map (lasting (moment history)) (all_slices history a z)) ≡ active history a z
  pub rest : active history a z ≡ (moment history z -ℤ moment history a) -ℤ paused_for history a z
