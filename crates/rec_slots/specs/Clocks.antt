-- What is kept of each slot while a run is walked.
use Rattle.std.specs.BTreeMap.{get}
use Rattle.std.specs.Ordering.{nat_cmp}
use Rattle.std.specs.Prelude.{◌≡◌, ℕ, ◌+◌, ◌-◌, ◌≤◌, Bool, false}
use Rattle.std.specs.Prelude.{Option, Some, None, is_some, IfSome}
use Rattle.rec_slots.specs.declared.clocks.Clocks.{Clocks}
use Rattle.rec_slots.specs.declared.clocks.SlotClock.{SlotClock}
use Rattle.rec_slots.specs.declared.report.SlotUsage.{SlotUsage}

-- the time since an attempt started, where one is open
abbrev pub since_start : ℕ → Option ℕ → ℕ
since_start active None = 0
since_start active (Some t) = active - t

-- the time of a slot so far, where the run has been outside pauses for so long
abbrev pub worked : ℕ → SlotClock → ℕ
worked active c = c.busy + since_start active c.since

abbrev pub worked_so_far : ℕ → Option SlotClock → ℕ
worked_so_far active None = 0
worked_so_far active (Some c) = worked active c

abbrev pub has_open : Option SlotClock → Bool
has_open None = false
has_open (Some c) = is_some c.since

-- the busy time of a slot so far, and whether an attempt is open on it
abbrev pub slot_time : Clocks → ℕ → ℕ
slot_time cs slot = worked_so_far cs.active (get nat_cmp cs.slots slot)

abbrev pub is_open : Clocks → ℕ → Bool
is_open cs slot = has_open (get nat_cmp cs.slots slot)

-- an attempt began when the run was outside pauses for at most as long as now, and a slot is busy
-- at most as long as the run is
pub record IsClock (active : ℕ) (c : SlotClock) : Type 0 where
  pub began : IfSome c.since (λ t. t ≤ active)
  pub bound : worked active c ≤ active

abbrev pub AreClocks : Clocks → Type 0
AreClocks cs = (slot : ℕ) → IfSome (get nat_cmp cs.slots slot) (IsClock cs.active)

-- whether an attempt began on a slot
abbrev pub has_clock : Clocks → ℕ → Bool
has_clock cs slot = is_some (get nat_cmp cs.slots slot)

-- the usage of a slot, by its clock
pub record IsTimed (cs : Clocks) (u : SlotUsage) : Type 0 where
  pub busy_is : u.busy ≡ slot_time cs u.slot
  pub paused_is : u.paused ≡ cs.paused
  pub sum : u.busy + u.paused + u.idle ≡ cs.paused + cs.active
