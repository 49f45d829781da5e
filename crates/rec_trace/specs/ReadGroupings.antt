-- What both groupings show alike, as it is read: all but the metadata, the pids of the rows of
-- tests and the names of their slices.
use Rattle.std.specs.List.{flat_map}
use Rattle.std.specs.Prelude.{List, [], ◌∷◌, bytes_eq, codes, if◌then◌else◌}
use Rattle.rec_trace_events.specs.ReadEvents.{ReadEvent, is_slice}

-- an event of a test without what the grouping decides
abbrev pub ungrouped_test : ReadEvent → ReadEvent
ungrouped_test e =
    record e { row = record { pid = 0; tid = e.row.tid }; name = if is_slice e then [] else e.name }

abbrev pub ungrouped_read : ReadEvent → List ReadEvent
ungrouped_read e =
    if bytes_eq e.phase (codes "M") then []
    else ((if bytes_eq e.category (codes "test") then ungrouped_test e else e) ∷ [])

abbrev pub all_ungrouped_read : List ReadEvent → List ReadEvent
all_ungrouped_read es = flat_map ungrouped_read es
