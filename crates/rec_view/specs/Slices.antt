-- The slices between two positions of any history, and their times.
use Rattle.std.specs.Option.{unwrap_or}
use Rattle.std.specs.Prelude.{◌-◌, ◌&&◌, ℕ, suc, zero, nat_lt, Bool, true, false, not, ℤ, ◌-ℤ◌}
use Rattle.std.specs.Prelude.{List, [], ◌∷◌, ◌++◌, length, min, Option, Some, None, if◌then◌else◌}
use Rattle.rec_spans.specs.Past.{TraceInput, is_paused}
use Rattle.rec_spans.specs.Positions.{past_at}
use Rattle.rec_spans.specs.Times.{IsWindow, Window, instant}
use Rattle.rec_slots.specs.Gaps.GapKind.{busy, paused}
use Rattle.rec_slots.specs.Gaps.{gap_kind, time_of}

-- the instant of an event; past the last one that of the last
abbrev pub moment : List TraceInput → ℕ → ℤ
moment history i = instant history (min i (length history - 1))

-- whether the gap after an event is outside pauses
abbrev pub shown : List TraceInput → ℕ → Bool
shown history j = not (is_paused (past_at history (suc j)))

-- the time from a to z outside pauses, and that in pauses
abbrev pub active : List TraceInput → ℕ → ℕ → ℤ
active history a z =
    time_of (moment history) (λ j. gap_kind (not (shown history j)) true) busy a (z - a)

abbrev pub paused_for : List TraceInput → ℕ → ℕ → ℤ
paused_for history a z =
    time_of (moment history) (λ j. gap_kind (not (shown history j)) true) paused a (z - a)

-- a pause of the whole history
abbrev pub IsPause : List TraceInput → Window → Type 0
IsPause history w = IsWindow history 0 (length history) w

-- ---- slices as a list

abbrev pub close : Option ℕ → ℕ → List (ℕ × ℕ)
close None a = []
close (Some x) a = (x, a) ∷ []

-- the longest stretches of the n gaps from a on that pass, where one from `held` on was passed
-- before
abbrev pub stretches : (ℕ → Bool) → Option ℕ → ℕ → ℕ → List (ℕ × ℕ)
stretches passes held a zero = close held a
stretches passes held a (suc n) =
    if passes a then stretches passes (Some (unwrap_or held a)) (suc a) n
    else close held a ++ stretches passes None (suc a) n

-- the slices from a to z that have a length
abbrev pub slices : List TraceInput → ℕ → ℕ → List (ℕ × ℕ)
slices history a z = stretches (shown history) None a (z - a)

-- whether the run is in a pause at an event
abbrev pub in_pause : List TraceInput → ℕ → Bool
in_pause history i = is_paused (past_at history i)

abbrev pub instant_if : Bool → ℕ → List (ℕ × ℕ)
instant_if true i = (i, i) ∷ []
instant_if false i = []

-- all slices from a to z: those that have a length, and the instants at a start and at an end in a
-- pause
abbrev pub all_slices : List TraceInput → ℕ → ℕ → List (ℕ × ℕ)
all_slices history a z =
    instant_if (in_pause history a) a
    ++ slices history a z ++ instant_if (nat_lt z (length history) && in_pause history z) z

-- the pauses of the whole history: the longest stretches of gaps in pauses
abbrev pub pauses : List TraceInput → List (ℕ × ℕ)
pauses history = stretches (λ j. not (shown history j)) None 0 (length history - 0)

abbrev pub lasting : (ℕ → ℤ) → ℕ × ℕ → ℤ
lasting t s = t s.1 -ℤ t s.0
