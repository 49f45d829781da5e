-- What both groupings show alike, as it is read; and what is read of a prefix.
use Rattle.std.proofs.Common.{◌≡◌, List, [], ◌∷◌, refl, sym, ap, ◌∙◌}
use Rattle.std.proofs.lemmas.List.Concat.{flat_map-append}
use Rattle.semver.specs.Parse.{Parts}
use Rattle.rec_trace_events.specs.declared.rows.Category.TheVariants as categories
use Rattle.rec_trace_events.specs.ReadEvents.{events_read}
use Rattle.rec_spans.specs.declared.settings.ChromeTraceGroupBy.TheVariants.{Binary, Slot}
use Rattle.rec_spans.specs.declared.spans.Phase.TheVariants.{Begin, End}
use Rattle.rec_spans.specs.declared.spans.Phase.{Phase}
use Rattle.rec_spans.specs.declared.spans.SpanKey.TheVariants as keys
use Rattle.rec_spans.specs.declared.spans.SpanKey.{SpanKey}
use Rattle.rec_spans.specs.Groupings.{ungrouped_mark}
use Rattle.rec_spans.specs.Past.{Mark}
use Rattle.rec_spans.specs.Plain.{PlainEvent}
use Rattle.rec_trace.proofs.Groupings.{groupings-draw_alike}
use Rattle.rec_trace.proofs.ReadEvents.{events-drawn}
use Rattle.rec_trace.specs.Drawn.Drawn.{Slice, ProcessNamed, RowNamed, Running, Results}
use Rattle.rec_trace.specs.Drawn.Drawn.{RunMarked, Slow, ArrowStarts, ArrowFinishes}
use Rattle.rec_trace.specs.Drawn.{Drawn, all_events}
use Rattle.rec_trace.specs.Groupings.{all_ungrouped, ungrouped_drawn}
use Rattle.rec_trace.specs.Histories.{trace_drawn}
use Rattle.rec_trace.specs.ReadDrawn.{all_read, read_drawn, read_mark}
use Rattle.rec_trace.specs.ReadGroupings.{all_ungrouped_read, ungrouped_read}

-- a mark by its phase and key
mark-ungrouped : (p : Phase) (k : SpanKey) (m : Mark) → m.phase ≡ p → m.span.key ≡ k
    → all_ungrouped_read (read_mark m ∷ []) ≡ read_mark (ungrouped_mark m) ∷ []
mark-ungrouped Begin keys.Run m phase key = rw (phase, key) refl
mark-ungrouped Begin keys.SubRun m phase key = rw (phase, key) refl
mark-ungrouped Begin (keys.Script index) m phase key = rw (phase, key) refl
mark-ungrouped Begin (keys.Test test) m phase key = rw (phase, key) refl
mark-ungrouped End keys.Run m phase key = rw (phase, key) refl
mark-ungrouped End keys.SubRun m phase key = rw (phase, key) refl
mark-ungrouped End (keys.Script index) m phase key = rw (phase, key) refl
mark-ungrouped End (keys.Test test) m phase key = rw (phase, key) refl

drawn-ungrouped : (d : Drawn) → all_ungrouped_read (read_drawn d) ≡ all_read (ungrouped_drawn d)
drawn-ungrouped (Slice m args) = mark-ungrouped m.phase m.span.key m refl refl
drawn-ungrouped (ProcessNamed pid name) = refl
drawn-ungrouped (RowNamed row name) = refl
drawn-ungrouped (Running counts at) = refl
drawn-ungrouped (Results counts at) = refl
drawn-ungrouped (RunMarked mark counts at) = refl
drawn-ungrouped (Slow categories.Run row at args) = refl
drawn-ungrouped (Slow categories.Stress row at args) = refl
drawn-ungrouped (Slow categories.SetupScript row at args) = refl
drawn-ungrouped (Slow categories.Test row at args) = refl
drawn-ungrouped (ArrowStarts test row at flow) = refl
drawn-ungrouped (ArrowFinishes test row at flow) = refl

all-ungrouped : (ds : List Drawn) → all_ungrouped_read (all_read ds) ≡ all_read (all_ungrouped ds)
all-ungrouped [] = refl
all-ungrouped (d ∷ ds) =
    flat_map-append ungrouped_read (read_drawn d) (all_read ds)
    ∙ (rw (drawn-ungrouped d, all-ungrouped ds) refl
    ∙ sym (flat_map-append read_drawn (ungrouped_drawn d) (all_ungrouped ds)))

read-ungrouped : (ds : List Drawn)
    → all_ungrouped_read (events_read (all_events ds)) ≡ all_read (all_ungrouped ds)
read-ungrouped ds = ap all_ungrouped_read (events-drawn ds) ∙ all-ungrouped ds

pub groupings-read : (version : Parts) (events : List PlainEvent)
    → all_ungrouped_read (events_read (all_events (trace_drawn version Binary events)))
    ≡ all_ungrouped_read (events_read (all_events (trace_drawn version Slot events)))
groupings-read version events =
    read-ungrouped (trace_drawn version Binary events)
    ∙ (ap all_read (groupings-draw_alike version events)
    ∙ sym (read-ungrouped (trace_drawn version Slot events)))
