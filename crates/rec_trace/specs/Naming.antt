-- Which processes and rows a trace names.
use Rattle.std.specs.List.{flat_map}
use Rattle.std.specs.Prelude.{ℕ, Bool, List, [], ◌∷◌, ◌++◌, Option, Some, None, if◌then◌else◌}
use Rattle.rec_trace_events.specs.declared.rows.Row.{Row}
use Rattle.rec_trace_events.specs.TraceEvents.{process_row}
use Rattle.rec_trace.specs.Drawn.Drawn.{ProcessNamed, RowNamed}
use Rattle.rec_trace.specs.Drawn.{Drawn}

-- what has a name: a process, or a row of one
pub data Named : Type 0 where
  Process : (pid : ℕ) → Named
  Thread : (row : Row) → Named

abbrev pub named_by : Drawn → List Named
named_by (ProcessNamed pid name) = Process pid ∷ []
named_by (RowNamed row name) = Thread row ∷ []
named_by _ = []

-- what is named, in order
abbrev pub all_named : List Drawn → List Named
all_named drawn = flat_map named_by drawn

-- the row that is known to be named: that of a process is its first
abbrev pub row_of_named : Named → Row
row_of_named (Process pid) = process_row pid
row_of_named (Thread row) = row

-- a row that is asked for is named with its process, each where it wasn't before
abbrev pub newly_named : (Row → Bool) → Option Row → List Named
newly_named is_named None = []
newly_named is_named (Some row) =
    (if is_named (process_row row.pid) then [] else Process row.pid ∷ [])
    ++ (if is_named row then [] else Thread row ∷ [])
