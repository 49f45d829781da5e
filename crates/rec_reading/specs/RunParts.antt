-- What a run's events are printed from.
use Rattle.std.specs.Prelude.{◌≡◌, ◌⊎◌, ℕ, List, Option, Some, None, Result, Ok, Err}
use Rattle.rec_container.specs.Container.{Entry, IsContainer, ParsedContainer}
use Rattle.rec_container.specs.Reading.{◌>>=◌}
use Rattle.rec_events.specs.declared.recording.NextestRunMode.{NextestRunMode}
use Rattle.rec_events.specs.declared.recording.RecordOpts.{RecordOpts}
use Rattle.rec_events.specs.declared.recording.TestListSummary.{TestListSummary}
use Rattle.rec_forms.specs.Recording.{test_list_form, record_opts_form}
use Rattle.rec_codec.specs.declared.line_events.LineError.{LineError}
use Rattle.rec_codec.specs.Event.{RecordedEvent}
use Rattle.rec_codec.specs.LineReading.{log_items}
use Rattle.rec_codec.specs.Lines.{lines, numbered}
use Rattle.rec_store.specs.declared.read_error.RecordReadError.{RecordReadError}
use Rattle.rec_store.specs.Entries.{record_opts_path, test_list_path}
use Rattle.rec_store.specs.Parts.{metadata_part}
use Rattle.rec_portable.specs.declared.errors.PortableRecordingReadError.TheVariants as bundles
use Rattle.rec_portable.specs.declared.errors.PortableRecordingReadError.{
  PortableRecordingReadError,
}
use Rattle.rec_portable.specs.OuterEntries.{IsStoreRefused, log_part}
use Rattle.rec_errors.specs.declared.reading_error.ReadingError.TheVariants.{OutOfMemory}
use Rattle.rec_errors.specs.declared.reading_error.ReadingError.{ReadingError}
use Rattle.rec_errors.specs.ReadingErrors.{bundle_error, part_error}
use Rattle.rec_reading.specs.declared.parts.OpenRun.{OpenRun}
use Rattle.rec_reading.specs.Stores.{store_part}

-- the entries of the store, what the run did with its tests, which these are,
-- and what the lines of the log give
pub record RunParts : Type 0 where
  pub store : List Entry
  pub mode : NextestRunMode
  pub tests : TestListSummary
  pub items : List (Result RecordedEvent LineError)

-- a part of a bundle, or why it isn't read
abbrev pub of_bundle : {A : Type 0} → Result A PortableRecordingReadError → Result A ReadingError
of_bundle (Ok x) = Ok x
of_bundle (Err e) = Err (bundle_error e)

-- the same of a part of its store
abbrev pub of_store : {A : Type 0} → Result A RecordReadError → Result A ReadingError
of_store (Ok x) = Ok x
of_store (Err e) = Err (part_error e)

abbrev pub opts_part : List Entry → ℕ → Result RecordOpts ReadingError
opts_part store limit = of_store (metadata_part record_opts_form record_opts_path store limit)

abbrev pub tests_part : List Entry → ℕ → Result TestListSummary ReadingError
tests_part store limit = of_store (metadata_part test_list_form test_list_path store limit)

-- the log comes first, then the store, the record options and the test list
abbrev pub parts_of : ℕ → List Entry → Result RunParts ReadingError
parts_of limit es = do
  log ← of_bundle (log_part limit es)
  store ← of_bundle (store_part es)
  opts ← opts_part store limit
  tests ← tests_part store limit
  Ok (record {
    store = store;
    mode = opts.run_mode;
    tests = tests;
    items = log_items (numbered 1 (lines log));
  })

-- ---- a run that is read

-- a function answers this, but for want of memory
abbrev pub Answers : {T : Type 0} → Result T ReadingError → Result T ReadingError → Type 0
Answers expected (Ok x) = expected ≡ Ok x
Answers expected (Err e) = (e ≡ OutOfMemory) ⊎ (expected ≡ Err e)

-- the entries of the store that was found, or memory ran out, or the store is refused
abbrev pub OpensStored : Option (List ℕ) → Result ParsedContainer PortableRecordingReadError
    → Type 0
OpensStored None (Ok c) = ⊥
OpensStored (Some bytes) (Ok c) = IsContainer bytes c.entries
OpensStored found (Err e) = (e ≡ bundles.OutOfMemory) ⊎ IsStoreRefused found e

-- the entries of a container that was read, or why it isn't, but for want of memory
abbrev pub OpensEntries : Result (List Entry) ReadingError → Result ParsedContainer ReadingError
    → Type 0
OpensEntries expected (Ok c) = expected ≡ Ok c.entries
OpensEntries expected (Err e) = (e ≡ OutOfMemory) ⊎ (expected ≡ Err e)

-- the parts of a run that was read
abbrev pub parts_in : OpenRun → RunParts
parts_in run = record {
  store = run.store.entries;
  mode = run.mode;
  tests = run.tests;
  items = log_items (numbered 1 (lines run.log));
}

-- a run with these parts was read under a limit, or they are refused
abbrev pub OpensRun : ℕ → Result RunParts ReadingError → Result OpenRun ReadingError → Type 0
OpensRun limit expected (Ok run) = (run.store.limit ≡ limit) × (expected ≡ Ok (parts_in run))
OpensRun limit expected (Err e) = (e ≡ OutOfMemory) ⊎ (expected ≡ Err e)
