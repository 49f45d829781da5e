-- What the slots of a run see of each event, after the events before it.
use Rattle.std.specs.List.{list_any}
use Rattle.std.specs.Prelude.{◌≡◌, ◌≢◌, ℕ, suc, ◌==◌, ◌<◌, ◌⊎◌, ℤ, pos, ◌-ℤ◌, ◌<ℤ◌, Bool}
use Rattle.std.specs.Prelude.{true, false, not, ◌&&◌, ◌||◌, List, [], ◌∷◌, ◌++◌, length}
use Rattle.std.specs.Prelude.{Option, Some, None, Result, Ok, Err, slice_get, take}
use Rattle.rec_events.specs.declared.instances.OwnedTestInstanceId.{OwnedTestInstanceId}
use Rattle.rec_spans.specs.declared.errors.ChromeTraceError.TheVariants.{OutOfMemory}
use Rattle.rec_spans.specs.declared.errors.ChromeTraceError.{ChromeTraceError}
use Rattle.rec_spans.specs.declared.settings.ChromeTraceGroupBy.TheVariants.{Slot}
use Rattle.rec_spans.specs.declared.spans.Place.TheVariants as places
use Rattle.rec_spans.specs.declared.spans.Place.{Place}
use Rattle.rec_spans.specs.declared.spans.Span.{Span}
use Rattle.rec_spans.specs.declared.spans.SpanKey.TheVariants as keys
use Rattle.rec_spans.specs.History.{TraceState, state_after}
use Rattle.rec_spans.specs.Kinds.{history}
use Rattle.rec_spans.specs.Past.Change.{Start, Stop}
use Rattle.rec_spans.specs.Past.{in_place, is_paused, of_key, open_spans}
use Rattle.rec_spans.specs.Plain.{PlainEvent}
use Rattle.rec_spans.specs.Positions.{Has, change_at, past_at}
use Rattle.rec_spans.specs.Refusals.{events_refusal, history_refusal}
use Rattle.rec_slots.specs.Acts.Act.{RunStarts, RunEnds, Starts, Ends, Silent}
use Rattle.rec_slots.specs.Acts.{Act, acts}
use Rattle.rec_slots.specs.declared.beats.Beat.{Beat}
use Rattle.rec_slots.specs.declared.beats.Change.TheVariants as changes
use Rattle.rec_slots.specs.declared.beats.Change.{Change}
use Rattle.rec_slots.specs.declared.phases.RunPhase.TheVariants.{Before, Running, Over, Several}
use Rattle.rec_slots.specs.declared.phases.RunPhase.{RunPhase}
use Rattle.rec_slots.specs.Runs.RunMark.{Begin, End}
use Rattle.rec_slots.specs.Runs.{RunMark, StartsAttempt, instant, run_marks, starts_on}
use Rattle.rec_slots.specs.Usage.{is_held}

-- ---- changes

abbrev pub slot_at : Place → Option ℕ
slot_at places.Run = None
slot_at places.SubRun = None
slot_at (places.Slot slot) = Some slot
slot_at (places.Script index) = None

-- the slot of the first of these spans
abbrev pub slot_among : List Span → Option ℕ
slot_among [] = None
slot_among (s ∷ spans) = slot_at s.place

abbrev pub ends_on : Option ℕ → Change
ends_on None = changes.Nothing
ends_on (Some slot) = changes.Ends slot

-- what an event changes, where these spans are open before it
abbrev pub change_in : List Span → Act → Change
change_in spans RunStarts = changes.RunStarts
change_in spans RunEnds = changes.RunEnds
change_in spans (Starts slot) = changes.Starts slot
change_in spans (Ends test) = ends_on (slot_among (of_key (keys.Test test) spans))
change_in spans Silent = changes.Nothing

-- ---- the run

abbrev pub changed_run : Change → List RunMark
changed_run changes.RunStarts = Begin ∷ []
changed_run changes.RunEnds = End ∷ []
changed_run (changes.Starts slot) = []
changed_run (changes.Ends slot) = []
changed_run changes.Nothing = []

-- how far the run is after these starts and ends of runs
abbrev pub phase_of : List RunMark → RunPhase
phase_of [] = Before
phase_of (Begin ∷ []) = Running
phase_of (Begin ∷ End ∷ []) = Over
phase_of (Begin ∷ End ∷ m ∷ ms) = Several
phase_of (Begin ∷ Begin ∷ ms) = Several
phase_of (End ∷ ms) = Several

-- a run has started and ended, and there was nothing else of a run
abbrev pub is_done : List RunMark → Bool
is_done [] = false
is_done (Begin ∷ []) = false
is_done (Begin ∷ End ∷ []) = true
is_done (Begin ∷ End ∷ m ∷ ms) = false
is_done (Begin ∷ Begin ∷ ms) = false
is_done (End ∷ ms) = false

-- ---- beats

-- an instant whose seconds are an i64
abbrev pub IsNear : ℤ → Type 0
IsNear t =
    ((pos 0 -ℤ pos 10000000000000000000000000000) <ℤ t) × (t <ℤ pos 10000000000000000000000000000)

-- none, or one
abbrev pub IsAtMostOne : List Span → Type 0
IsAtMostOne spans = (spans ≡ []) ⊎ ((s : Span) × (spans ≡ s ∷ []))

-- the tracker has taken so many events, none of which is refused
pub record HasTracked (events : List PlainEvent) (n : ℕ) (tracker : TraceState) : Type 0 where
  pub state : tracker ≡ state_after (past_at (history Slot events) n)
  pub accepted : history_refusal (take n (history Slot events)) ≡ None
  pub single : (slot : ℕ)
      → IsAtMostOne (in_place (places.Slot slot) (open_spans (past_at (history Slot events) n)))
  pub alone : (test : OwnedTestInstanceId)
      → IsAtMostOne (of_key (keys.Test test) (open_spans (past_at (history Slot events) n)))

-- the starts and the ends of runs before a place
abbrev pub marks_before : List PlainEvent → ℕ → List RunMark
marks_before events n = run_marks (take n (acts events))

-- the spans that are open before a place
abbrev pub spans_before : List PlainEvent → ℕ → List Span
spans_before events n = open_spans (past_at (history Slot events) n)

-- whether an attempt has started on a slot before a place
abbrev pub is_known : List PlainEvent → ℕ → ℕ → Bool
is_known events n slot = list_any (starts_on slot) (take n (acts events))

-- whether a slot is held after a change, and whether an attempt has started on it
abbrev pub held_after : Change → ℕ → Bool → Bool
held_after changes.RunStarts s before = before
held_after changes.RunEnds s before = before
held_after (changes.Starts slot) s before = s == slot || before
held_after (changes.Ends slot) s before = not (s == slot) && before
held_after changes.Nothing s before = before

abbrev pub known_after : Change → ℕ → Bool → Bool
known_after changes.RunStarts s before = before
known_after changes.RunEnds s before = before
known_after (changes.Starts slot) s before = s == slot || before
known_after (changes.Ends slot) s before = before
known_after changes.Nothing s before = before

-- the event at a place ends the one attempt that is open on a slot
pub record EndsOn (events : List PlainEvent) (n slot : ℕ) : Type 0 where
  pub span : Span
  pub place : span.place ≡ places.Slot slot
  pub stops : change_at (history Slot events) n ≡ Some (Stop span.key)
  pub one : (s : Span) → Has (spans_before events n) s
      → (s.key ≡ span.key) ⊎ (s.place ≡ places.Slot slot) → s ≡ span

-- no attempt starts or ends at a place
pub record IsNoAttempt (events : List PlainEvent) (n : ℕ) : Type 0 where
  pub no_start : ¬ StartsAttempt events n
  pub no_span : (s : Span) (slot : ℕ) → change_at (history Slot events) n ≡ Some (Start s)
      → s.place ≢ places.Slot slot
  pub no_stop : (test : OwnedTestInstanceId)
      → change_at (history Slot events) n ≢ Some (Stop (keys.Test test))

-- what the event at a place does to the run and to attempts
abbrev pub Does : List PlainEvent → ℕ → Change → Type 0
Does events n changes.RunStarts =
    IsNoAttempt events n × (slice_get (acts events) n ≡ Some RunStarts)
Does events n changes.RunEnds = IsNoAttempt events n × (slice_get (acts events) n ≡ Some RunEnds)
Does events n (changes.Starts slot) =
    StartsAttempt events n × ((s : Span) × (change_at (history Slot events) n ≡ Some (Start s))
    × (s.place ≡ places.Slot slot))
    × (is_held slot (spans_before events n) ≡ false)
Does events n (changes.Ends slot) = ¬ StartsAttempt events n × EndsOn events n slot
Does events n changes.Nothing = IsNoAttempt events n

-- what is seen of the event at a place
pub record IsBeat (events : List PlainEvent) (n : ℕ) (beat : Beat) : Type 0 where
  pub within : n < length events
  pub numbered : beat.number ≡ suc n
  pub at : beat.at ≡ instant events n
  pub near : IsNear beat.at
  pub paused : beat.in_pause ≡ is_paused (past_at (history Slot events) n)
  pub marks : marks_before events (suc n) ≡ marks_before events n ++ changed_run beat.change
  pub known : (slot : ℕ)
      → is_known events (suc n) slot ≡ known_after beat.change slot (is_known events n slot)
  pub held : (slot : ℕ)
      → is_held slot (spans_before events (suc n))
      ≡ held_after beat.change slot (is_held slot (spans_before events n))
  pub does : Does events n beat.change

-- the next event is taken, and seen; or refused
abbrev pub Tracks : List PlainEvent → ℕ → TraceState → Result Beat ChromeTraceError → Type 0
Tracks events n new (Ok beat) = HasTracked events (suc n) new × IsBeat events n beat
Tracks events n new (Err e) = (e ≡ OutOfMemory) ⊎ (events_refusal Slot events ≡ Some e)
