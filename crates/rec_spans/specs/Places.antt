-- Where spans stand, and in which order.
use Rattle.std.specs.declared.cmp.Ordering.{Ordering}
use Rattle.std.specs.Ordering.{nat_cmp, ordering_then, is_eq, is_lt}
use Rattle.std.specs.Prelude.{ℕ, Bool}
use Rattle.rec_spans.specs.declared.spans.Place.TheVariants.{Run, SubRun, Slot, Script}
use Rattle.rec_spans.specs.declared.spans.Place.{Place}

-- the run, the sub-run, the tests, the setup scripts
abbrev pub rank : Place → ℕ
rank Run = 0
rank SubRun = 1
rank (Slot slot) = 2
rank (Script index) = 3

-- the slot of a test, the index of a setup script
abbrev pub number : Place → ℕ
number Run = 0
number SubRun = 0
number (Slot slot) = slot
number (Script index) = index

abbrev pub place_cmp : Place → Place → Ordering
place_cmp a b = ordering_then (nat_cmp (rank a) (rank b)) (nat_cmp (number a) (number b))

abbrev pub place_eq : Place → Place → Bool
place_eq a b = is_eq (place_cmp a b)

abbrev pub place_lt : Place → Place → Bool
place_lt a b = is_lt (place_cmp a b)
