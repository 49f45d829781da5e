-- What becomes of a tracer with one event more: what it draws,
-- and what it leaves where it is accepted, or let go.
use Rattle.std.specs.Prelude.{◌≡◌, suc, List}
use Rattle.serde_json.specs.Data.{Data}
use Rattle.rec_spans.specs.History.{next_state}
use Rattle.rec_spans.specs.Kinds.{trace_input}
use Rattle.rec_spans.specs.Opened.{IsOpened, state_opened}
use Rattle.rec_spans.specs.Past.{TraceInput}
use Rattle.rec_spans.specs.Plain.{PlainEvent}
use Rattle.rec_trace.specs.declared.tracer.PreparedEvent.{PreparedEvent}
use Rattle.rec_trace.specs.declared.tracer.Tracer.{Tracer}
use Rattle.rec_trace.specs.Drawn.{all_events}
use Rattle.rec_trace.specs.Entries.{EachSays, EachSaysBut}
use Rattle.rec_trace.specs.Known.{SameKnown, next_known}
use Rattle.rec_trace.specs.KnownNews.{HasRoom, known_in, known_with}
use Rattle.rec_trace.specs.Table.{drawn}

-- an event as a tracer sees it
abbrev pub seen_by : Tracer → PlainEvent → TraceInput
seen_by t event = trace_input t.group_by t.tracker.binaries event

-- the trace events of the next event
abbrev pub draws : Tracer → PlainEvent → List Data
draws t event = all_events (drawn t.version t.group_by t.tracker (known_in t.known) event)

-- the tracer stays as it was, whatever room was made
pub record StaysSame (old new : Tracer) : Type 0 where
  pub group : new.group_by ≡ old.group_by
  pub version : new.version ≡ old.version
  pub stands : new.tracker ≡ old.tracker
  pub knows : SameKnown (known_in new.known) (known_in old.known)
  pub each_says : EachSays old.known → EachSays new.known

-- the event was opened, its news is what it decides, and there is room for that
pub record IsPrepared (old : Tracer) (event : PlainEvent) (new : Tracer)
    (p : PreparedEvent) : Type 0 where
  pub group : new.group_by ≡ old.group_by
  pub version : new.version ≡ old.version
  pub opened : IsOpened old.tracker (seen_by old event) p.opened
  pub stands : new.tracker ≡ state_opened (seen_by old event) old.tracker
  pub knows : SameKnown (known_in new.known) (known_in old.known)
  pub told : SameKnown (known_with p.news (known_in old.known))
      (next_known old.tracker.next_flow (seen_by old event) event.kind (known_in old.known))
  pub has_room : HasRoom p.news new.known
  pub each_says : EachSays old.known → EachSaysBut p.news new.known
  pub numbered : p.opened.number ≡ suc new.tracker.number

-- the number of the event is the next one
abbrev pub IsNumbered : PreparedEvent → Tracer → Type 0
IsNumbered p t = p.opened.number ≡ suc t.tracker.number

-- the event was accepted
pub record Advances (old : Tracer) (event : PlainEvent) (new : Tracer) : Type 0 where
  pub group : new.group_by ≡ old.group_by
  pub version : new.version ≡ old.version
  pub stands : new.tracker ≡ next_state (seen_by old event) old.tracker
  pub knows : SameKnown (known_in new.known)
      (next_known old.tracker.next_flow (seen_by old event) event.kind (known_in old.known))
  pub each_says : EachSays old.known → EachSays new.known
