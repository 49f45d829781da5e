-- What is drawn in a trace, as a viewer reads it.
use Rattle.std.specs.List.{flat_map}
use Rattle.std.specs.Prelude.{ℕ, List, [], ◌∷◌, codes}
use Rattle.rec_trace_events.specs.ReadEvents.{ReadEvent, arrow_read, counter_read}
use Rattle.rec_trace_events.specs.ReadEvents.{metadata_read, plain_read}
use Rattle.rec_trace_events.specs.TraceEvents.{category_text, mark_name, process_row, run_row}
use Rattle.rec_spans.specs.declared.spans.Phase.TheVariants.{Begin, End}
use Rattle.rec_spans.specs.declared.spans.Phase.{Phase}
use Rattle.rec_spans.specs.Past.{Mark}
use Rattle.rec_trace.specs.Drawn.Drawn.{Slice, ProcessNamed, RowNamed, Running, Results}
use Rattle.rec_trace.specs.Drawn.Drawn.{RunMarked, Slow, ArrowStarts, ArrowFinishes}
use Rattle.rec_trace.specs.Drawn.{Drawn, category_of}

abbrev pub phase_text : Phase → List ℕ
phase_text Begin = codes "B"
phase_text End = codes "E"

-- a mark as it is read
abbrev pub read_mark : Mark → ReadEvent
read_mark m =
    plain_read (phase_text m.phase) m.span.name (category_text (category_of m.span.key))
    m.span.row m.at

-- the events that each thing drawn is read as
abbrev pub read_drawn : Drawn → List ReadEvent
read_drawn (Slice mark args) = read_mark mark ∷ []
read_drawn (ProcessNamed pid name) =
    metadata_read (codes "process_name") (process_row pid)
    ∷ metadata_read (codes "process_sort_index") (process_row pid)
    ∷ []
read_drawn (RowNamed row name) =
    metadata_read (codes "thread_name") row ∷ metadata_read (codes "thread_sort_index") row ∷ []
read_drawn (Running counts at) = counter_read (codes "concurrency") at ∷ []
read_drawn (Results counts at) = counter_read (codes "test results") at ∷ []
read_drawn (RunMarked mark counts at) =
    plain_read (codes "i") (mark_name mark) (codes "run") run_row at ∷ []
read_drawn (Slow category row at args) =
    plain_read (codes "i") (codes "slow") (category_text category) row at ∷ []
read_drawn (ArrowStarts test row at flow) = arrow_read (codes "s") row at flow ∷ []
read_drawn (ArrowFinishes test row at flow) = arrow_read (codes "f") row at flow ∷ []

abbrev pub all_read : List Drawn → List ReadEvent
all_read ds = flat_map read_drawn ds

-- the starts and finishes of arrows, as they are read
abbrev pub drawn_arrow : Drawn → List ReadEvent
drawn_arrow (ArrowStarts test row at flow) = arrow_read (codes "s") row at flow ∷ []
drawn_arrow (ArrowFinishes test row at flow) = arrow_read (codes "f") row at flow ∷ []
drawn_arrow _ = []
