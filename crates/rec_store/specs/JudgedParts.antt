-- The parts of a run as they are judged, one after the other, under a read limit.
use Rattle.std.specs.List.{flat_map, list_any}
use Rattle.std.specs.Prelude.{ℕ, not, ◌&&◌, Bool, List, [], ◌∷◌, filter, Option}
use Rattle.std.specs.Prelude.{Some, None, Result, Ok, Err, if◌then◌else◌}
use Rattle.std.specs.Str.{bytes_eq}
use Rattle.rec_container.specs.Container.{Entry}
use Rattle.rec_container.specs.Reading.{◌>>=◌}
use Rattle.rec_forms.specs.Recording.{test_list_form, record_opts_form}
use Rattle.rec_format.specs.declared.manifest.PortableManifest.{PortableManifest}
use Rattle.rec_format.specs.Runs.{info_of}
use Rattle.rec_format.specs.ScopeForms.{recorded_scope_form}
use Rattle.rec_codec.specs.declared.line_events.LineError.TheVariants as line
use Rattle.rec_codec.specs.declared.line_events.LineError.{LineError}
use Rattle.rec_codec.specs.Event.{RecordedEvent}
use Rattle.rec_codec.specs.LineReading.{events_before_fault, first_line_fault}
use Rattle.rec_codec.specs.Lines.{lines, numbered}
use Rattle.rec_store.specs.declared.read_error.RecordReadError.TheVariants.{
  ReadRunLog,
  ParseEvent,
  OutOfMemory,
}
use Rattle.rec_store.specs.declared.read_error.RecordReadError.{RecordReadError}
use Rattle.rec_store.specs.Entries.{build_scope_path, cargo_metadata_path}
use Rattle.rec_store.specs.Entries.{record_opts_path, test_list_path}
use Rattle.rec_store.specs.Kept.{event_paths}
use Rattle.rec_store.specs.Parts.{entry_part, metadata_part, rerun_info_part, utf8_part}
use Rattle.rec_store.specs.RunParts.{RunParts, is_metadata}

-- ---- the log

abbrev pub line_refusal : LineError → RecordReadError
line_refusal (line.ReadRunLog n) = ReadRunLog n
line_refusal (line.ParseEvent n) = ParseEvent n
line_refusal line.OutOfMemory = OutOfMemory

abbrev pub events_or_fault : List RecordedEvent → Option LineError
    → Result (List RecordedEvent) RecordReadError
events_or_fault events None = Ok events
events_or_fault events (Some fault) = Err (line_refusal fault)

-- the events of a log, or its first line that fails
abbrev pub log_judged : List ℕ → Result (List RecordedEvent) RecordReadError
log_judged log =
    let ls = numbered 1 (lines log) in
    events_or_fault (events_before_fault ls) (first_line_fault ls)

-- ---- the outputs

-- each output that is named is there, and no longer than the limit
abbrev pub outputs_judged : ℕ → List Entry → List (List ℕ) → Result (Unit {0}) RecordReadError
outputs_judged limit es [] = Ok tt
outputs_judged limit es (path ∷ paths) =
    entry_part es path limit >>= (λ content. outputs_judged limit es paths)

abbrev pub is_named : List (List ℕ) → Entry → Bool
is_named paths e = list_any (λ p. bytes_eq e.name p) paths

-- the first entry that is neither metadata nor named
abbrev pub first_unnamed : List (List ℕ) → List Entry → Option (List ℕ)
first_unnamed paths [] = None
first_unnamed paths (e ∷ es) =
    if not (is_metadata e.name) && not (is_named paths e) then Some e.name
    else first_unnamed paths es

-- ---- all of them

-- the parts of a bundle with this manifest, log and store, or why the first of them isn't read: the
-- metadata in the order in which it is recorded, then the log, then the outputs that it names
abbrev pub parts_judged : ℕ → PortableManifest → List ℕ → List Entry
    → Result RunParts RecordReadError
parts_judged limit m log es = do
  build_scope ← metadata_part recorded_scope_form build_scope_path es limit
  rerun_info ← rerun_info_part es limit
  test_list ← metadata_part test_list_form test_list_path es limit
  cargo_metadata ← utf8_part cargo_metadata_path es limit
  record_opts ← metadata_part record_opts_form record_opts_path es limit
  events ← log_judged log
  _ ← outputs_judged limit es (flat_map event_paths events)
  Ok (record {
    format_version = m.format_version;
    run = info_of m.run;
    cargo_metadata = cargo_metadata;
    test_list = test_list;
    record_opts = record_opts;
    build_scope = build_scope;
    rerun_info = rerun_info;
    events = events;
    outputs = filter (λ e. not (is_metadata e.name)) es;
  })
