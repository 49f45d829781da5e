-- What is read of a run before its events.
use Rattle.std.proofs.Common.{◌≡◌, ◌⊎◌, inl, inr, ℕ, List, Option, None, Some}
use Rattle.std.proofs.Common.{Result, Ok, Err, refl, sym, ap, subst, ◌∙◌, arith}
use Rattle.rec_container.specs.Container.{Entry, content_of}
use Rattle.rec_container.specs.Reading.{◌>>=◌}
use Rattle.rec_events.specs.declared.recording.RecordOpts.{RecordOpts}
use Rattle.rec_events.specs.declared.recording.TestListSummary.{TestListSummary}
use Rattle.rec_codec.specs.LineReading.{log_items}
use Rattle.rec_codec.specs.Lines.{lines, numbered}
use Rattle.rec_store.specs.declared.read_error.RecordReadError.TheVariants as parts
use Rattle.rec_store.specs.declared.read_error.RecordReadError.{RecordReadError}
use Rattle.rec_store.specs.Entries.{store_name}
use Rattle.rec_store.specs.Readers.{Denies, IsDiskCaused, Keeps}
use Rattle.rec_portable.specs.declared.errors.PortableRecordingReadError.TheVariants as bundles
use Rattle.rec_portable.specs.declared.errors.PortableRecordingReadError.{
  PortableRecordingReadError,
}
use Rattle.rec_portable.specs.Errors.{Reads}
use Rattle.rec_portable.specs.OuterEntries.{IsStoreRefused, OpensStore, log_part}
use Rattle.rec_portable.specs.Stores.{StoreReading}
use Rattle.rec_errors.specs.declared.reading_error.ReadingError.TheVariants.{OutOfMemory}
use Rattle.rec_errors.specs.declared.reading_error.ReadingError.{ReadingError}
use Rattle.rec_errors.specs.ReadingErrors.{bundle_error, part_error}
use Rattle.rec_reading.proofs.Entries.{entries_of_container, entries_of_fault}
use Rattle.rec_reading.specs.RunParts.{Answers, OpensRun, RunParts, of_bundle}
use Rattle.rec_reading.specs.RunParts.{of_store, opts_part, parts_of, tests_part}
use Rattle.rec_reading.specs.Stores.{archive_read, store_found, store_part}

-- ---- the store

pub store_refused : (found : Option (List ℕ)) (e : PortableRecordingReadError)
    → (e ≡ bundles.OutOfMemory) ⊎ IsStoreRefused found e
    → (e ≡ bundles.OutOfMemory) ⊎ (store_found found ≡ Err e)
store_refused found e (inl memory) = inl memory
store_refused None e (inr missing) = inr (ap Err (sym missing))
store_refused (Some bytes) e (inr none) =
    inr (ap archive_read (entries_of_fault bytes none.0 none.2) ∙ ap Err (sym none.1))

pub store_opened : (limit : ℕ) (found : Option (List ℕ)) (store : StoreReading)
    → OpensStore limit found (Ok store)
    → (store.limit ≡ limit) × (store_found found ≡ Ok store.entries)
store_opened limit None store h = absurd h
store_opened limit (Some bytes) store h =
    (h.0, ap archive_read (entries_of_container bytes store.entries h.1))

-- ---- one stage

-- want of memory, or the refusal of the first stage
abbrev pub Refused : {A : Type 0} → Result A ReadingError → ReadingError → Type 0
Refused stage e = (e ≡ OutOfMemory) ⊎ (stage ≡ Err e)

pub stage-refused : {A B : Type 0} (stage : Result A ReadingError)
    (next : A → Result B ReadingError) (e : ReadingError)
    → Refused stage e → Refused (stage >>= next) e
stage-refused stage next e (inl memory) = inl memory
stage-refused stage next e (inr refused) = inr (ap (λ r. r >>= next) refused)

pub stage-passed : {A B : Type 0} (stage : Result A ReadingError) (next : A → Result B ReadingError)
    (x : A) (e : ReadingError)
    → stage ≡ Ok x → Refused (next x) e → Refused (stage >>= next) e
stage-passed stage next x e passed (inl memory) = inl memory
stage-passed stage next x e passed (inr refused) = inr (ap (λ r. r >>= next) passed ∙ refused)

pub of_bundle-refused : {A : Type 0} (part : Result A PortableRecordingReadError)
    (e : PortableRecordingReadError)
    → (e ≡ bundles.OutOfMemory) ⊎ (part ≡ Err e) → Refused (of_bundle part) (bundle_error e)
of_bundle-refused part e (inl memory) = inl (ap bundle_error memory)
of_bundle-refused part e (inr refused) = inr (ap of_bundle refused)

-- ---- a part of the store, over a reader that never fails

pub part-refused : {Y : Type 0} (part : Result Y RecordReadError) (e : RecordReadError)
    → Denies part e → IsDiskCaused 0 0 e → Refused (of_store part) (part_error e)
part-refused part parts.OutOfMemory h cause = inl refl
part-refused part (parts.DiskFault path) h cause = absurd (let never = cause in omega arith)
part-refused part (parts.OpenArchive path) h cause = absurd h
part-refused part (parts.ParseArchive path fault) h cause = absurd h
part-refused part (parts.RunNotFound path) h cause = inr (ap of_store h)
part-refused part (parts.FileNotFound path) h cause = inr (ap of_store h)
part-refused part (parts.FileTooLarge path size limit) h cause = inr (ap of_store h)
part-refused part (parts.NotUtf8 path) h cause = inr (ap of_store h)
part-refused part (parts.DeserializeMetadata path) h cause = inr (ap of_store h)
part-refused part (parts.UnknownOutputType name) h cause = inr (ap of_store h)
part-refused part (parts.ExtractFile path) h cause = inr (ap of_store h)
part-refused part (parts.OpenRunLog path) h cause = inr (ap of_store h)
part-refused part (parts.ReadRunLog n) h cause = inr (ap of_store h)
part-refused part (parts.ParseEvent n) h cause = inr (ap of_store h)

-- a store that is read stays as it is
pub same-store : (old new : StoreReading)
    → Keeps old.limit new.limit (λ es. es ≡ old.entries) (λ es. es ≡ new.entries) → new ≡ old
same-store old new keeps =
    let entries = (keeps.entries old.entries).0 refl in
    λ i. record { entries = sym entries i; limit = keeps.limit i }

-- ---- all stages

module _ (limit : ℕ) (es : List Entry) where
  abbrev made : List ℕ → List Entry → RecordOpts → TestListSummary → Result RunParts ReadingError
  made log store opts tests = Ok (record {
    store = store;
    mode = opts.run_mode;
    tests = tests;
    items = log_items (numbered 1 (lines log));
  })

  abbrev with_opts : List ℕ → List Entry → RecordOpts → Result RunParts ReadingError
  with_opts log store opts = tests_part store limit >>= made log store opts

  abbrev with_store : List ℕ → List Entry → Result RunParts ReadingError
  with_store log store = opts_part store limit >>= with_opts log store

  abbrev with_log : List ℕ → Result RunParts ReadingError
  with_log log = of_bundle (store_part es) >>= with_store log

  pub log-refused : (e : PortableRecordingReadError) → Reads (log_part limit es) (Err e)
      → OpensRun limit (parts_of limit es) (Err (bundle_error e))
  log-refused e h =
      stage-refused (of_bundle (log_part limit es)) with_log (bundle_error e)
      (of_bundle-refused (log_part limit es) e h)

  module _ (log : List ℕ) (read : Reads (log_part limit es) (Ok log)) where
    pub store-refused : (e : PortableRecordingReadError)
        → OpensStore limit (content_of es store_name) (Err e)
        → OpensRun limit (parts_of limit es) (Err (bundle_error e))
    store-refused e h =
        stage-passed (of_bundle (log_part limit es)) with_log log (bundle_error e)
        (ap of_bundle read)
        (stage-refused (of_bundle (store_part es)) (with_store log) (bundle_error e)
        (of_bundle-refused (store_part es) e (store_refused (content_of es store_name) e h)))

    module _ (store : StoreReading)
        (opened : OpensStore limit (content_of es store_name) (Ok store)) where
      found : (store.limit ≡ limit) × (store_part es ≡ Ok store.entries)
      found = store_opened limit (content_of es store_name) store opened

      after-store : (e : ReadingError) → Refused (with_store log store.entries) e
          → Refused (parts_of limit es) e
      after-store e h =
          stage-passed (of_bundle (log_part limit es)) with_log log e (ap of_bundle read)
          (stage-passed (of_bundle (store_part es)) (with_store log) store.entries e
          (ap of_bundle found.1) h)

      pub opts-refused : (e : ReadingError) → Answers (opts_part store.entries store.limit) (Err e)
          → OpensRun limit (parts_of limit es) (Err e)
      opts-refused e h =
          after-store e (stage-refused (opts_part store.entries limit) (with_opts log store.entries)
          e (subst (λ (n : ℕ). Refused (opts_part store.entries n) e) found.0 h))

      module _ (opts : RecordOpts)
          (opts_read : Answers (opts_part store.entries store.limit) (Ok opts)) where
        opts_is : opts_part store.entries limit ≡ Ok opts
        opts_is = ap (opts_part store.entries) (sym found.0) ∙ opts_read

        pub tests-refused : (after : StoreReading) → after ≡ store → (e : ReadingError)
            → Answers (tests_part after.entries after.limit) (Err e)
            → OpensRun limit (parts_of limit es) (Err e)
        tests-refused after same e h =
            after-store e
            (stage-passed (opts_part store.entries limit) (with_opts log store.entries) opts e
            opts_is (stage-refused (tests_part store.entries limit) (made log store.entries opts) e
            (subst (λ (n : ℕ). Refused (tests_part store.entries n) e) found.0
            (subst (λ (s : StoreReading). Refused (tests_part s.entries s.limit) e) same h))))

        pub run-opened : (after last : StoreReading) → after ≡ store → last ≡ after
            → (tests : TestListSummary) → Answers (tests_part after.entries after.limit) (Ok tests)
            → OpensRun limit (parts_of limit es)
            (Ok (record { store = last; mode = opts.run_mode; tests = tests; log = log }))
        run-opened after last same still tests h =
            let tests_is : tests_part store.entries limit ≡ Ok tests =
            subst (λ (n : ℕ). tests_part store.entries n ≡ Ok tests) found.0
            (subst (λ (s : StoreReading). tests_part s.entries s.limit ≡ Ok tests) same h) in
            let all = still ∙ same in (
              ap (λ (s : StoreReading). s.limit) all ∙ found.0,
              ap (λ r. of_bundle r >>= with_log) read
                  ∙ ap (λ r. of_bundle r >>= with_store log) found.1
                  ∙ ap (λ r. r >>= with_opts log store.entries) opts_is
                  ∙ ap (λ r. r >>= made log store.entries opts) tests_is
                  ∙ ap (λ (s : StoreReading). made log s.entries opts tests) (sym all),
            )
