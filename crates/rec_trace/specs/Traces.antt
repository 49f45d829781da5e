-- The trace of events, and what has been traced of them.
use Rattle.std.specs.Bool.{⊤}
use Rattle.std.specs.Prelude.{◌≡◌, ◌⊎◌, ℕ, List, [], ◌∷◌, ◌++◌, Some, Result, Ok, Err}
use Rattle.semver.specs.Parse.{Parts}
use Rattle.serde_json.specs.Data.{Data}
use Rattle.rec_spans.specs.declared.errors.ChromeTraceError.TheVariants.{OutOfMemory}
use Rattle.rec_spans.specs.declared.errors.ChromeTraceError.{ChromeTraceError}
use Rattle.rec_spans.specs.declared.settings.ChromeTraceGroupBy.{ChromeTraceGroupBy}
use Rattle.rec_spans.specs.Plain.{PlainEvent}
use Rattle.rec_spans.specs.Refusals.{events_refusal}
use Rattle.rec_trace.specs.declared.printed_trace.PrintedTrace.{PrintedTrace}
use Rattle.rec_trace.specs.declared.settings.ChromeTraceMessageFormat.{ChromeTraceMessageFormat}
use Rattle.rec_trace.specs.declared.tracer.Tracer.{Tracer}
use Rattle.rec_trace.specs.Drawn.{all_events}
use Rattle.rec_trace.specs.Histories.{known_of, trace_drawn}
use Rattle.rec_trace.specs.Kept.{AreKept}
use Rattle.rec_trace.specs.Standing.{StandsFor}
use Rattle.rec_trace.specs.Steps.{Advances, StaysSame}
use Rattle.rec_trace.specs.Texts.{other_data, text_in, trace_value}

-- the text of the trace of events, of runs by this version of the runner
unfoldable pub trace_text : ChromeTraceMessageFormat → ChromeTraceGroupBy → Parts → List PlainEvent
    → List ℕ
trace_text format g version events =
    text_in format (trace_value (other_data version (known_of g events).last_run)
    (all_events (trace_drawn version g events)))

-- ---- what is built

-- the trace that is printed is that of these events so far, which have no cause to be refused
pub record HasTraced (format : ChromeTraceMessageFormat) (g : ChromeTraceGroupBy) (version : Parts)
    (events : List PlainEvent) (t : PrintedTrace) : Type 0 where
  pub tracer : StandsFor g version events t.tracer
  pub kept : AreKept format (all_events (trace_drawn version g events)) t.printed

-- an event is traced after others; or they are refused with it, or memory runs out,
-- and what was traced stays
abbrev pub Traces : ChromeTraceMessageFormat → ChromeTraceGroupBy → Parts → List PlainEvent
    → PlainEvent → PrintedTrace → Result ⊤ ChromeTraceError → Type 0
Traces format g version events event new (Ok u) =
    HasTraced format g version (events ++ event ∷ []) new
Traces format g version events event new (Err e) =
    ((e ≡ OutOfMemory) ⊎ (events_refusal g (events ++ event ∷ []) ≡ Some e))
    × HasTraced format g version events new

-- ---- one event

-- what an event draws is printed after what was, and the event is accepted after what was before;
-- or memory runs out, and the event is let go
abbrev pub Prints : List Data → Tracer → PlainEvent → PrintedTrace → PrintedTrace
    → Result ⊤ ChromeTraceError → Type 0
Prints drawn before event old new (Ok u) =
    Advances before event new.tracer
    × ((format : ChromeTraceMessageFormat) (kept : List Data) → AreKept format kept old.printed
    → AreKept format (kept ++ drawn) new.printed)
Prints drawn before event old new (Err e) =
    (e ≡ OutOfMemory)
    × (StaysSame before new.tracer × ((format : ChromeTraceMessageFormat) (kept : List Data)
    → AreKept format kept old.printed → AreKept format kept new.printed))
