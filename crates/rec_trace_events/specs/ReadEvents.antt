-- What a viewer reads of the events of a trace: of each object the members `ph`, `name`, `cat`,
-- `pid`, `tid`, `ts` and `id`, and what its `args` hold.
use Rattle.std.specs.List.{filter_map}
use Rattle.std.specs.Prelude.{ℕ, ℤ, pos, Bool, ◌||◌, List, [], Option, None, Some}
use Rattle.std.specs.Prelude.{bytes_eq, codes, filter, option_and_then, option_map}
use Rattle.serde_json.specs.Data.{Data}
use Rattle.serde_json.specs.Find.{as_integer, as_number, as_str, as_u64, get}
use Rattle.rec_trace_events.specs.declared.rows.Row.{Row}
use Rattle.rec_trace_events.specs.TraceEvents.{process_row}

-- an event as it is read; only some have an `id`
pub record ReadEvent : Type 0 where
  pub phase : List ℕ
  pub name : List ℕ
  pub category : List ℕ
  pub row : Row
  pub at : ℤ
  pub id : Option ℕ

-- ---- members of an object

abbrev pub text_at : List ℕ → Data → Option (List ℕ)
text_at key d = option_and_then as_str (get key d)

abbrev pub natural_at : List ℕ → Data → Option ℕ
natural_at key d = option_and_then as_u64 (option_and_then as_number (get key d))

abbrev pub integer_at : List ℕ → Data → Option ℤ
integer_at key d = option_and_then as_integer (option_and_then as_number (get key d))

abbrev pub row_at : Data → Option Row
row_at d =
    option_and_then (λ pid. option_map (λ tid. record { pid = pid; tid = tid })
    (natural_at (codes "tid") d)) (natural_at (codes "pid") d)

-- what the args of an event hold
abbrev pub args_at : Data → Option Data
args_at d = get (codes "args") d

-- a text and a number among them
abbrev pub text_in_args : List ℕ → Data → Option (List ℕ)
text_in_args key d = option_and_then (text_at key) (args_at d)

abbrev pub count_in_args : List ℕ → Data → Option ℕ
count_in_args key d = option_and_then (natural_at key) (args_at d)

-- the test that args name, by its binary and its name
abbrev pub test_in : Data → Option (List ℕ × List ℕ)
test_in args =
    option_and_then
    (λ binary. option_map (λ name. (binary, name)) (text_at (codes "test_name") args))
    (text_at (codes "binary_id") args)

abbrev pub test_in_args : Data → Option (List ℕ × List ℕ)
test_in_args d = option_and_then test_in (args_at d)

-- ---- events

-- the event that an object is read as, where none of the members is missing that each event has
abbrev pub event_read : Data → Option ReadEvent
event_read d =
    option_and_then (λ phase.
    option_and_then (λ name. option_and_then (λ category. option_and_then (λ row. option_map (λ at.
    record {
      phase = phase;
      name = name;
      category = category;
      row = row;
      at = at;
      id = natural_at (codes "id") d;
    })
    (integer_at (codes "ts") d)) (row_at d)) (text_at (codes "cat") d)) (text_at (codes "name") d))
    (text_at (codes "ph") d)

abbrev pub events_read : List Data → List ReadEvent
events_read ds = filter_map event_read ds

-- whether an event is the begin or the end of a slice
abbrev pub is_slice : ReadEvent → Bool
is_slice e = bytes_eq e.phase (codes "B") || bytes_eq e.phase (codes "E")

-- the begins and ends of slices among these events
abbrev pub slices_read : List Data → List ReadEvent
slices_read ds = filter is_slice (events_read ds)

-- ---- events of each kind

-- an event of this phase, without a number
abbrev pub plain_read : List ℕ → List ℕ → List ℕ → Row → ℤ → ReadEvent
plain_read phase name category row at =
    record { phase = phase; name = name; category = category; row = row; at = at; id = None }

-- the start or the finish of the arrow of this number
abbrev pub arrow_read : List ℕ → Row → ℤ → ℕ → ReadEvent
arrow_read phase row at number =
    record {
      phase = phase;
      name = codes "retry";
      category = codes "test";
      row = row;
      at = at;
      id = Some number;
    }

-- metadata has no time of its own
abbrev pub metadata_read : List ℕ → Row → ReadEvent
metadata_read name row = plain_read (codes "M") name [] row (pos 0)

-- a counter stands on the first row of the run's process
abbrev pub counter_read : List ℕ → ℤ → ReadEvent
counter_read name at = plain_read (codes "C") name (codes "run") (process_row 0) at
