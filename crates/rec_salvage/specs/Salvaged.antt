-- What is kept of a run that was stopped: its sound lines, the metadata,
-- and the outputs that these lines name.
use Rattle.std.specs.List.{filter, flat_map, list_all}
use Rattle.std.specs.Prelude.{ℕ, Bool, true, false, List, [], ◌∷◌, ◌++◌}
use Rattle.std.specs.Prelude.{length, Option, Some, None, is_some}
use Rattle.serde_json.specs.Written.{compact_text}
use Rattle.rec_container.specs.Container.{Entry, content_of, spell}
use Rattle.rec_container.specs.Writing.{entry_named}
use Rattle.rec_format.specs.declared.run.RecordedRunInfo.{RecordedRunInfo}
use Rattle.rec_format.specs.declared.sizes.RecordedSizes.{RecordedSizes}
use Rattle.rec_format.specs.RunForms.{manifest_value}
use Rattle.rec_format.specs.Runs.{manifest_of}
use Rattle.rec_codec.specs.Event.{RecordedEvent, line_event}
use Rattle.rec_codec.specs.Lines.{text_of}
use Rattle.rec_store.specs.Ending.{sizes_of_log, sizes_of_store}
use Rattle.rec_store.specs.Entries.{bundle_entries}
use Rattle.rec_store.specs.JudgedParts.{is_named}
use Rattle.rec_store.specs.Kept.{event_paths}
use Rattle.rec_store.specs.RunParts.{metadata_paths}
use Rattle.rec_salvage.specs.WholeLines.{sound_lines, spelled, whole_lines}

-- ---- lines

-- the event of a line, where it has one
abbrev pub event_in : Option (Option RecordedEvent) → List RecordedEvent
event_in None = []
event_in (Some None) = []
event_in (Some (Some e)) = e ∷ []

abbrev pub line_events : List ℕ → List RecordedEvent
line_events line = event_in (line_event (text_of line))

-- ---- the content of an entry, as an entry of this name

abbrev pub listed : List ℕ → Option (List ℕ) → List Entry
listed path None = []
listed path (Some content) = entry_named path content ∷ []

-- ---- over the entries of the store's whole prefix

module _ (es : List Entry) where
  -- a line is sound where it is blank, or an event whose outputs are all there
  abbrev pub has_all : Option (Option RecordedEvent) → Bool
  has_all None = false
  has_all (Some None) = true
  has_all (Some (Some e)) = list_all (λ path. is_some (content_of es path)) (event_paths e)

  abbrev pub is_sound : List ℕ → Bool
  is_sound line = has_all (line_event (text_of line))

  -- the metadata, in the order of a recording
  abbrev pub prefix_metadata : List Entry
  prefix_metadata = flat_map (λ path. listed path (content_of es path)) metadata_paths

  -- the entries that events name, in the order in which they were stored
  abbrev pub named_entries : List RecordedEvent → List Entry
  named_entries events = filter (is_named (flat_map event_paths events)) es

  -- the metadata, and the entries that events name
  abbrev pub kept_entries : List RecordedEvent → List Entry
  kept_entries events = prefix_metadata ++ named_entries events

  module _ (log : List ℕ) where
    -- the longest prefix of the log's lines that are sound
    abbrev pub salvaged_lines : List (List ℕ)
    salvaged_lines = sound_lines is_sound (whole_lines log)

    abbrev pub salvaged_log : List ℕ
    salvaged_log = spelled salvaged_lines

    abbrev pub salvaged_events : List RecordedEvent
    salvaged_events = flat_map line_events salvaged_lines

    abbrev pub salvaged_store : List Entry
    salvaged_store = kept_entries salvaged_events

    abbrev pub salvaged_sizes : RecordedSizes
    salvaged_sizes = record {
      log = sizes_of_log (length salvaged_log) (length salvaged_events);
      store = sizes_of_store salvaged_store;
    }

-- ---- the bundle

-- the run with the sizes of what is kept
abbrev pub salvaged_run : RecordedRunInfo → List Entry → List ℕ → RecordedRunInfo
salvaged_run run es log = record run { sizes = salvaged_sizes es log }

-- the text of the manifest of a run
abbrev pub manifest_text : RecordedRunInfo → List ℕ
manifest_text run = compact_text (manifest_value (manifest_of run))

abbrev pub salvaged_contents : RecordedRunInfo → List Entry → List ℕ → List Entry
salvaged_contents run es log =
    bundle_entries (manifest_text (salvaged_run run es log)) (salvaged_log es log)
    (spell (salvaged_store es log))

abbrev pub salvaged_bundle : RecordedRunInfo → List Entry → List ℕ → List ℕ
salvaged_bundle run es log = spell (salvaged_contents run es log)
