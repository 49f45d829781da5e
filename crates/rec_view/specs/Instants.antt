-- The instants of a history in microseconds, where a trace takes them, and the time of slices.
use Rattle.std.specs.List.{list_all}
use Rattle.std.specs.Prelude.{◌≡◌, ◌^◌, ℕ, ℤ, Bool, true, false, List, map}
use Rattle.std.specs.Prelude.{Option, Some, None, if◌then◌else◌}
use Rattle.rec_forms.specs.Shape.{fits}
use Rattle.rec_spans.specs.Past.{TraceInput}
use Rattle.rec_spans.specs.Times.{total}
use Rattle.rec_view.specs.declared.instants.Instants.{Instants}
use Rattle.rec_view.specs.Slices.{lasting, moment}

abbrev pub instants : List TraceInput → List ℤ
instants history = map (λ input. input.at) history

-- each of them is an i64
abbrev pub are_in_range : List ℤ → Bool
are_in_range ts = list_all (fits (2 ^ 63)) ts

pub record HasInstants (history : List TraceInput) (i : Instants) : Type 0 where
  pub micros : i.micros.items ≡ instants history

-- what is told of the instants: all, or that one of them is no i64
abbrev pub TellsInstants : List TraceInput → Option Instants → Type 0
TellsInstants history None = are_in_range (instants history) ≡ false
TellsInstants history (Some i) =
    (are_in_range (instants history) ≡ true) × HasInstants history i

-- a number, if it is an i64
abbrev pub i64_of : ℤ → Option ℤ
i64_of z = if fits (2 ^ 63) z then Some z else None

-- the time of slices in all
abbrev pub time_of_slices : List TraceInput → List (ℕ × ℕ) → ℤ
time_of_slices history slices = total (map (lasting (moment history)) slices)
