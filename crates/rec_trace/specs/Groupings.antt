-- What both groupings draw alike: all but the names of processes and rows, the pids of the rows of
-- tests, and the names of their slices.
use Rattle.std.specs.List.{flat_map}
use Rattle.std.specs.Prelude.{List, [], ◌∷◌}
use Rattle.rec_trace_events.specs.declared.rows.Category.TheVariants as categories
use Rattle.rec_trace_events.specs.declared.rows.Category.{Category}
use Rattle.rec_trace_events.specs.declared.rows.Row.{Row}
use Rattle.rec_spans.specs.Groupings.{ungrouped_mark}
use Rattle.rec_trace.specs.Drawn.Drawn.{Slice, ProcessNamed, RowNamed, Running, Results}
use Rattle.rec_trace.specs.Drawn.Drawn.{RunMarked, Slow, ArrowStarts, ArrowFinishes}
use Rattle.rec_trace.specs.Drawn.{Drawn}

-- a row of a test without the pid, which the grouping decides
abbrev pub ungrouped_row : Row → Row
ungrouped_row row = record { pid = 0; tid = row.tid }

abbrev pub slow_row : Category → Row → Row
slow_row categories.Run row = row
slow_row categories.Stress row = row
slow_row categories.SetupScript row = row
slow_row categories.Test row = ungrouped_row row

-- what is drawn without what the grouping decides
abbrev pub ungrouped_drawn : Drawn → List Drawn
ungrouped_drawn (Slice mark args) = Slice (ungrouped_mark mark) args ∷ []
ungrouped_drawn (ProcessNamed pid name) = []
ungrouped_drawn (RowNamed row name) = []
ungrouped_drawn (Running counts at) = Running counts at ∷ []
ungrouped_drawn (Results counts at) = Results counts at ∷ []
ungrouped_drawn (RunMarked mark counts at) = RunMarked mark counts at ∷ []
ungrouped_drawn (Slow category row at args) = Slow category (slow_row category row) at args ∷ []
ungrouped_drawn (ArrowStarts test row at flow) = ArrowStarts test (ungrouped_row row) at flow ∷ []
ungrouped_drawn (ArrowFinishes test row at flow) =
    ArrowFinishes test (ungrouped_row row) at flow ∷ []

abbrev pub all_ungrouped : List Drawn → List Drawn
all_ungrouped drawn = flat_map ungrouped_drawn drawn
