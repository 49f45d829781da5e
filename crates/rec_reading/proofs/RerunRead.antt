-- What is read of a run for its rerun.
use Rattle.std.proofs.Common.{◌≡◌, ℕ, List, ◌++◌, Result, Ok, Err}
use Rattle.std.proofs.Common.{ap, subst, sym, ◌∙◌, append_assoc}
use Rattle.rec_container.specs.Container.{Entry, content_of}
use Rattle.rec_container.specs.Reading.{◌>>=◌}
use Rattle.rec_format.specs.declared.manifest.PortableManifest.{PortableManifest}
use Rattle.rec_codec.specs.Event.{RecordedEvent}
use Rattle.rec_store.specs.Entries.{store_name}
use Rattle.rec_portable.specs.declared.errors.PortableRecordingReadError.{
  PortableRecordingReadError,
}
use Rattle.rec_portable.specs.Errors.{Reads}
use Rattle.rec_portable.specs.Judging.{judged}
use Rattle.rec_portable.specs.OuterEntries.{OpensStore, log_part}
use Rattle.rec_portable.specs.Stores.{StoreReading}
use Rattle.rec_errors.specs.declared.reading_error.ReadingError.{ReadingError}
use Rattle.rec_errors.specs.ReadingErrors.{bundle_error}
use Rattle.rec_reading.proofs.Opened.{Refused, of_bundle-refused, stage-passed}
use Rattle.rec_reading.proofs.Opened.{stage-refused, store_opened, store_refused}
use Rattle.rec_reading.specs.declared.rerun.Tested.{Tested}
use Rattle.rec_reading.specs.LogEvents.{events_of}
use Rattle.rec_reading.specs.LogLines.{log_lines}
use Rattle.rec_reading.specs.Reruns.{RerunParts, parts_after, rerun_parts_of, tested_part}
use Rattle.rec_reading.specs.RunParts.{of_bundle}
use Rattle.rec_reading.specs.Stores.{store_part}

module _ (limit : ℕ) (es : List Entry) (manifest : PortableManifest)
    (manifest_is : of_bundle (judged limit es) ≡ Ok manifest) where
  abbrev made : Tested → List RecordedEvent → Result RerunParts ReadingError
  made said events = Ok (record { run_id = manifest.run.run_id; tested = said; events = events })

  abbrev with_tested : List ℕ → Tested → Result RerunParts ReadingError
  with_tested log said = events_of (log_lines log) >>= made said

  abbrev with_store : List ℕ → List Entry → Result RerunParts ReadingError
  with_store log store = tested_part store limit >>= with_tested log

  abbrev with_log : List ℕ → Result RerunParts ReadingError
  with_log log = of_bundle (store_part es) >>= with_store log

  after-manifest : (e : ReadingError) → Refused (of_bundle (log_part limit es) >>= with_log) e
      → Refused (rerun_parts_of limit es) e
  after-manifest e h =
      stage-passed (of_bundle (judged limit es)) (parts_after limit es) manifest e manifest_is h

  pub log-refused : (e : PortableRecordingReadError) → Reads (log_part limit es) (Err e)
      → Refused (rerun_parts_of limit es) (bundle_error e)
  log-refused e h =
      after-manifest (bundle_error e) (stage-refused (of_bundle (log_part limit es)) with_log
      (bundle_error e) (of_bundle-refused (log_part limit es) e h))

  module _ (log : List ℕ) (log_is : Reads (log_part limit es) (Ok log)) where
    after-log : (e : ReadingError) → Refused (with_log log) e → Refused (rerun_parts_of limit es) e
    after-log e h =
        after-manifest e
        (stage-passed (of_bundle (log_part limit es)) with_log log e (ap of_bundle log_is) h)

    pub store-refused : (e : PortableRecordingReadError)
        → OpensStore limit (content_of es store_name) (Err e)
        → Refused (rerun_parts_of limit es) (bundle_error e)
    store-refused e h =
        after-log (bundle_error e)
        (stage-refused (of_bundle (store_part es)) (with_store log) (bundle_error e)
        (of_bundle-refused (store_part es) e (store_refused (content_of es store_name) e h)))

    module _ (store : StoreReading)
        (opened : OpensStore limit (content_of es store_name) (Ok store)) where
      found : (store.limit ≡ limit) × (store_part es ≡ Ok store.entries)
      found = store_opened limit (content_of es store_name) store opened

      after-store : (e : ReadingError) → Refused (with_store log store.entries) e
          → Refused (rerun_parts_of limit es) e
      after-store e h =
          after-log e (stage-passed (of_bundle (store_part es)) (with_store log) store.entries e
          (ap of_bundle found.1) h)

      pub tested-refused : (e : ReadingError) → Refused (tested_part store.entries store.limit) e
          → Refused (rerun_parts_of limit es) e
      tested-refused e h =
          after-store e (stage-refused (tested_part store.entries limit) (with_tested log) e
          (subst (λ (n : ℕ). Refused (tested_part store.entries n) e) found.0 h))

      module _ (said : Tested) (read : tested_part store.entries store.limit ≡ Ok said) where
        said_is : tested_part store.entries limit ≡ Ok said
        said_is = ap (tested_part store.entries) (sym found.0) ∙ read

        pub events-refused : (e : ReadingError) → Refused (events_of (log_lines log)) e
            → Refused (rerun_parts_of limit es) e
        events-refused e h =
            after-store e (stage-passed (tested_part store.entries limit) (with_tested log)
            said e said_is (stage-refused (events_of (log_lines log)) (made said) e h))

        pub rerun-read : (events : List RecordedEvent) → events_of (log_lines log) ≡ Ok events
            → rerun_parts_of limit es
            ≡ Ok (record { run_id = manifest.run.run_id; tested = said; events = events })
        rerun-read events h =
            ap (λ r. r >>= parts_after limit es) manifest_is
            ∙ ap (λ r. of_bundle r >>= with_log) log_is
            ∙ ap (λ r. of_bundle r >>= with_store log) found.1
            ∙ ap (λ r. r >>= with_tested log) said_is ∙ ap (λ r. r >>= made said) h

-- ---- three texts after another

pub three_after : (start a b c first second third : List ℕ) → first ≡ start ++ a
    → second ≡ first ++ b → third ≡ second ++ c → third ≡ start ++ (a ++ (b ++ c))
three_after start a b c first second third one two three =
    three ∙ ap (λ l. l ++ c) (two ∙ ap (λ l. l ++ b) one)
    ∙ ap (λ l. l ++ c) (append_assoc start a b) ∙ append_assoc start (a ++ b) c
    ∙ ap (λ l. start ++ l) (append_assoc a b c)
