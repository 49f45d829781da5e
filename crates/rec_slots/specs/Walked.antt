-- What is kept of a run and its slots after so many of its events.
use Rattle.std.specs.BTreeMap.{get, is_at}
use Rattle.std.specs.BTreeSet.{contains}
use Rattle.std.specs.Ordering.{nat_cmp}
use Rattle.std.specs.Prelude.{◌≡◌, ◌≢◌, ◌↔◌, ℕ, suc, ◌+◌, ◌<◌, pos, ◌-ℤ◌, Bool}
use Rattle.std.specs.Prelude.{true, false, ◌&&◌, if◌then◌else◌, List, [], ◌∷◌}
use Rattle.std.specs.Prelude.{slice_get, Option, Some, None, Result, Ok, Err}
use Rattle.rec_spans.specs.declared.settings.ChromeTraceGroupBy.TheVariants.{Slot}
use Rattle.rec_spans.specs.declared.spans.Place.TheVariants as places
use Rattle.rec_spans.specs.declared.spans.Span.{Span}
use Rattle.rec_spans.specs.Kinds.{history}
use Rattle.rec_spans.specs.Past.Change.{Start, Stop}
use Rattle.rec_spans.specs.Plain.{PlainEvent}
use Rattle.rec_spans.specs.Positions.{change_at}
use Rattle.rec_slots.specs.Acts.Act.{RunStarts, RunEnds}
use Rattle.rec_slots.specs.Acts.{acts}
use Rattle.rec_slots.specs.Beats.{HasTracked, IsBeat, IsNear, is_known}
use Rattle.rec_slots.specs.Beats.{marks_before, phase_of, spans_before}
use Rattle.rec_slots.specs.Clocks.{AreClocks, has_clock, is_open, slot_time}
use Rattle.rec_slots.specs.declared.attempts.Attempts.{Attempts}
use Rattle.rec_slots.specs.declared.beats.Beat.{Beat}
use Rattle.rec_slots.specs.declared.clocks.Clocks.{Clocks}
use Rattle.rec_slots.specs.declared.report.SlotError.{SlotError}
use Rattle.rec_slots.specs.declared.times.Times.{Times}
use Rattle.rec_slots.specs.declared.walk.Walk.{Walk}
use Rattle.rec_slots.specs.Gaps.GapKind.{busy, paused}
use Rattle.rec_slots.specs.Gaps.{time_of}
use Rattle.rec_slots.specs.Refusals.{IsFirst, IsRefused}
use Rattle.rec_slots.specs.Runs.RunMark.{Begin, End}
use Rattle.rec_slots.specs.Runs.{Falls, IsInside, StartsAttempt, instant, is_running}
use Rattle.rec_slots.specs.Usage.{is_held, slot_kind}

-- ---- times

-- the run starts at a place, and the clocks have the times of so many gaps from there on
pub record AreTimes (events : List PlainEvent) (start gaps : ℕ) (cs : Clocks) : Type 0 where
  pub near : IsNear (instant events start)
  pub near_end : IsNear (instant events (start + gaps))
  pub times : (slot : ℕ)
      → pos (slot_time cs slot) ≡ time_of (instant events) (slot_kind events slot) busy start gaps
  pub paused_is : (slot : ℕ)
      → pos cs.paused ≡ time_of (instant events) (slot_kind events slot) paused start gaps
  pub total : pos (cs.paused + cs.active) ≡ instant events (start + gaps) -ℤ instant events start

-- no time has passed
pub record AreAtStart (cs : Clocks) : Type 0 where
  pub times : (slot : ℕ) → slot_time cs slot ≡ 0
  pub paused_is : cs.paused ≡ 0
  pub active_is : cs.active ≡ 0

-- the clocks have the time of a run that goes on, up to the event before a place
pub record AreRunning (events : List PlainEvent) (n : ℕ) (cs : Clocks) : Type 0 where
  pub start : ℕ
  pub gaps : ℕ
  pub starts : slice_get (acts events) start ≡ Some RunStarts
  pub last : n ≡ suc (start + gaps)
  pub times : AreTimes events start gaps cs

-- the clocks have the time of a run that is over
pub record AreOver (events : List PlainEvent) (cs : Clocks) : Type 0 where
  pub start : ℕ
  pub gaps : ℕ
  pub starts : slice_get (acts events) start ≡ Some RunStarts
  pub ends : slice_get (acts events) (start + gaps) ≡ Some RunEnds
  pub times : AreTimes events start gaps cs

-- the clocks have the time of the run before a place
pub record AreSpent (events : List PlainEvent) (n : ℕ) (cs : Clocks) : Type 0 where
  pub before : marks_before events n ≡ [] → AreAtStart cs
  pub running : marks_before events n ≡ Begin ∷ [] → AreRunning events n cs
  pub over : marks_before events n ≡ Begin ∷ End ∷ [] → AreOver events cs

-- the first instant that falls before a place, if one does
abbrev pub FallsBefore : List PlainEvent → ℕ → Option ℕ → Type 0
FallsBefore events n None = (k : ℕ) → k < n → ¬ Falls events k
FallsBefore events n (Some event) = (i : ℕ) × (event ≡ suc i) × IsFirst (Falls events) i

pub record HasTimed (events : List PlainEvent) (n : ℕ) (t : Times) : Type 0 where
  pub clocks : AreClocks t.clocks
  pub near : IsNear t.last
  pub last : (m : ℕ) → n ≡ suc m → t.last ≡ instant events m
  pub held : (slot : ℕ) → is_open t.clocks slot ≡ is_held slot (spans_before events n)
  pub known : (slot : ℕ) → has_clock t.clocks slot ≡ is_known events n slot
  pub fall : FallsBefore events n t.fell
  pub spent : t.fell ≡ None → AreSpent events n t.clocks

-- the same, where the time up to the event at the place has passed
pub record HasPassed (events : List PlainEvent) (n : ℕ) (t : Times) : Type 0 where
  pub clocks : AreClocks t.clocks
  pub held : (slot : ℕ) → is_open t.clocks slot ≡ is_held slot (spans_before events n)
  pub known : (slot : ℕ) → has_clock t.clocks slot ≡ is_known events n slot
  pub fall : FallsBefore events (suc n) t.fell
  pub before : t.fell ≡ None → marks_before events n ≡ [] → AreAtStart t.clocks
  pub running : t.fell ≡ None → marks_before events n ≡ Begin ∷ []
      → AreRunning events (suc n) t.clocks
  pub over : t.fell ≡ None → marks_before events n ≡ Begin ∷ End ∷ [] → AreOver events t.clocks

-- some events are seen so
pub record CanTake (beat : Beat) (running : Bool) (t : Times) : Type 0 where
  pub events : List PlainEvent
  pub n : ℕ
  pub beat_is : IsBeat events n beat
  pub running_is : running ≡ is_running events n
  pub timed : HasTimed events n t

-- ---- attempts

-- what starts at a place is over before another, and both were inside the run
abbrev pub IsInsideBefore : List PlainEvent → ℕ → ℕ → Type 0
IsInsideBefore events n i = (w : IsInside events i) × (w.end < n)

-- an attempt starts at a place before another, and isn't known by then to be inside the run
pub record IsOutsideBefore (events : List PlainEvent) (n i : ℕ) : Type 0 where
  pub before : i < n
  pub starts : StartsAttempt events i
  pub outside : ¬ IsInsideBefore events n i

-- the span of an attempt that started while the run went on, at event `number`,
-- is open on a slot before a place
pub record IsOpenOn (events : List PlainEvent) (n slot number : ℕ) : Type 0 where
  pub start : ℕ
  pub numbered : number ≡ suc start
  pub before : start < n
  pub running : is_running events start ≡ true
  pub span : Span
  pub starts : change_at (history Slot events) start ≡ Some (Start span)
  pub place : span.place ≡ places.Slot slot
  pub lasts : (k : ℕ) → start < k → k < n → change_at (history Slot events) k ≢ Some (Stop span.key)

pub record HasNoted (events : List PlainEvent) (n : ℕ) (a : Attempts) : Type 0 where
  pub none : contains nat_cmp a.starts 0 ≡ false
  pub starts : (i : ℕ) → (contains nat_cmp a.starts (suc i) ≡ true) ↔ IsOutsideBefore events n i
  pub before : marks_before events n ≡ [] → (slot : ℕ) → get nat_cmp a.running slot ≡ None
  pub running : marks_before events n ≡ Begin ∷ [] → (slot number : ℕ)
      → (get nat_cmp a.running slot ≡ Some number) ↔ IsOpenOn events n slot number

-- an attempt that starts at event `number` is noted, and as one on a slot if the run goes on
pub record StartsOn (number slot : ℕ) (running : Bool) (old new : Attempts) : Type 0 where
  pub starts : (i : ℕ)
      → contains nat_cmp new.starts i
      ≡ (if is_at (nat_cmp number) i then true else contains nat_cmp old.starts i)
  pub on_slot : (p : ℕ)
      → get nat_cmp new.running p
      ≡ (if running && is_at (nat_cmp slot) p then Some number else get nat_cmp old.running p)

-- without a number, if it is one
abbrev pub without : Option ℕ → ℕ → Bool → Bool
without None i there = there
without (Some number) i there = if is_at (nat_cmp number) i then false else there

-- the open attempt of a slot is taken out if the run goes on
pub record EndsOnSlot (slot : ℕ) (running : Bool) (old new : Attempts) : Type 0 where
  pub starts : (i : ℕ) → contains nat_cmp new.starts i ≡ without
      (if running then get nat_cmp old.running slot else None) i (contains nat_cmp old.starts i)
  pub on_slot : (p : ℕ)
      → get nat_cmp new.running p
      ≡ (if running && is_at (nat_cmp slot) p then None else get nat_cmp old.running p)

-- the number of the first of them, if there is one
abbrev pub FindsFirst : List PlainEvent → ℕ → Option ℕ → Type 0
FindsFirst events n None = (i : ℕ) → ¬ IsOutsideBefore events n i
FindsFirst events n (Some event) = (i : ℕ) × (event ≡ suc i) × IsFirst (IsOutsideBefore events n) i

-- ---- the walk

pub record HasWalked (events : List PlainEvent) (n : ℕ) (walk : Walk) : Type 0 where
  pub tracked : HasTracked events n walk.tracker
  pub phase : walk.run ≡ phase_of (marks_before events n)
  pub times : HasTimed events n walk.times
  pub attempts : HasNoted events n walk.attempts

-- some events were walked, and this is the next
pub record IsWalked (event : PlainEvent) (walk : Walk) : Type 0 where
  pub events : List PlainEvent
  pub n : ℕ
  pub at : slice_get events n ≡ Some event
  pub walked : HasWalked events n walk

-- the next event is taken, or there is no report
abbrev pub Walks : List PlainEvent → ℕ → Walk → Result (Unit {0}) SlotError → Type 0
Walks events n new (Ok done) = HasWalked events (suc n) new
Walks events n new (Err e) = IsRefused events e
