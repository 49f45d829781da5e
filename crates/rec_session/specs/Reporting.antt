-- What the reporters of a run do.
use Rattle.std.specs.Io.KnownBytes.{Appends}
use Rattle.std.specs.Prelude.{◌≡◌, ℕ, ◌≤◌, List, [], false, Option, Some, None, Result}
use Rattle.std.specs.Prelude.{Ok, Err, IfErr, OnOk, IfOk, IsSomeAnd, ⊤, ◌⊎◌, MatchOption}
use Rattle.rec_container.specs.Container.{AreFrom, ending}
use Rattle.rec_events.specs.declared.live_events.TestEvent.{TestEvent}
use Rattle.rec_events.specs.declared.recording.RecordOpts.{RecordOpts}
use Rattle.rec_events.specs.declared.recording.TestListSummary.{TestListSummary}
use Rattle.rec_events.specs.LiveEvents.{event_summary}
use Rattle.rec_codec.specs.Event.{LiveEvent, IsLogged}
use Rattle.rec_store.specs.declared.error.RunStoreError.TheVariants.{OutOfMemory}
use Rattle.rec_store.specs.declared.error.RunStoreError.{RunStoreError}
use Rattle.rec_store.specs.declared.sizes.StoreSizes.{StoreSizes}
use Rattle.rec_store.specs.Ending.{sizes_of, Unended}
use Rattle.rec_store.specs.EventOutputs.{event_recorded}
use Rattle.rec_store.specs.Kept.{HasOutputs}
use Rattle.rec_store.specs.Logging.{Logs, Unlogged}
use Rattle.rec_store.specs.Recording.{Recording, has_failed, KeepsEntries}
use Rattle.rec_store.specs.Recording.{KeepsCounts, Stores, Unstored}
use Rattle.rec_store.specs.Store.{meta_entries, AreMetaRead}
use Rattle.rec_session.specs.declared.record_reporter.RecordReporter.{RecordReporter}
use Rattle.rec_session.specs.declared.record_reporter.RecordReporterError.TheVariants.{RunStore}
use Rattle.rec_session.specs.declared.record_reporter.RecordReporterError.{RecordReporterError}
use Rattle.rec_session.specs.declared.record_reporter.ReporterEnd.{ReporterEnd}
use Rattle.rec_session.specs.declared.structured_reporter.StructuredEnd.{StructuredEnd}

-- what a call returned whose error, if it had one, is kept
abbrev pub returned : Option RecordReporterError → Result ⊤ RunStoreError
returned None = Ok tt
returned (Some (RunStore e)) = Err e

-- the kept error, or where there is none what the recorder's end returned
abbrev pub end_result : Option RecordReporterError → Result StoreSizes RunStoreError
    → Result StoreSizes RecordReporterError
end_result (Some e) ended = Err e
end_result None (Ok sizes) = Ok sizes
end_result None (Err e) = Err (RunStore e)

-- what is set is left so, and what isn't set stays so
abbrev pub LeavesSet : {A : Type 0} → (A → A → Type 0) → Option A → Option A → Type 0
LeavesSet P None new = new ≡ None
LeavesSet P (Some old) new = IsSomeAnd new (P old)

-- what a structured reporter returns where its record reporter ended so
abbrev pub structured_end : {S L : Type 0} → Result StoreSizes RecordReporterError → S → L
    → StructuredEnd S L
structured_end (Ok sizes) store log =
    record { sizes = Some sizes; error = None; sinks = Some (store, log) }
structured_end (Err e) store log =
    record { sizes = None; error = Some e; sinks = Some (store, log) }

module _ {S L N : Type 0} (taken : S → Option (List ℕ)) (faults : S → ℕ) (log_faults : L → ℕ) where
  -- what a recorder's own call stores of a run's metadata, returns and leaves
  pub record WritesMeta (old : Recording S L N) (metadata : List ℕ) (tests : TestListSummary)
      (opts : RecordOpts) (result : Result ⊤ RunStoreError) (new : Recording S L N) : Type 0 where
    pub ok : OnOk result (Stores taken faults old new (meta_entries metadata tests opts))
    pub read : OnOk result (AreMetaRead tests opts)
    pub err : IfErr result (Unstored taken faults old new (meta_entries metadata tests opts))
    pub entries : KeepsEntries old.store new.store
    pub later : KeepsCounts faults log_faults old new

  -- where no error is kept, the recorder's own call leaves the recorder,
  -- and its error is kept; else nothing changes
  abbrev pub ReportsMeta : RecordReporter S L N → List ℕ → TestListSummary → RecordOpts
      → RecordReporter S L N → Type 0
  ReportsMeta old metadata tests opts new =
      MatchOption old.error
      (WritesMeta old.recorder metadata tests opts (returned new.error) new.recorder)
      (λ _. new ≡ old)

module _ {S L N : Type 0} (taken : S → Option (List ℕ)) (faults : S → ℕ)
    (log_taken : L → Option (List ℕ)) (log_faults : L → ℕ) (number : N → List ℕ → ℕ) where
  -- what a recorder's own call records of an event, returns and leaves
  pub record WritesEvent (old : Recording S L N) (event : LiveEvent)
      (result : Result ⊤ RunStoreError) (new : Recording S L N) : Type 0 where
    pub ok : OnOk result (Logs taken faults log_taken log_faults number old new event)
    pub logged : OnOk result (IsLogged (event_recorded (number old.namer) old.max_output event))
    pub err : IfErr result (Unlogged taken faults log_taken log_faults number old new event)
    pub entries : KeepsEntries old.store new.store
    pub later : KeepsCounts faults log_faults old new
    pub outputs : OnOk result
        (HasOutputs new.store.entries (event_recorded (number old.namer) old.max_output event))

  -- a live event is recorded as its summary, by the recorder's own call; what only informs leaves
  -- the recorder, and so does want of memory for the summary
  abbrev pub Records : Recording S L N → TestEvent → Result ⊤ RunStoreError → Recording S L N
      → Type 0
  Records old event result new =
      ((result ≡ Err OutOfMemory) × (new ≡ old))
      ⊎ MatchOption (event_summary event) ((result ≡ Ok tt) × (new ≡ old))
      (λ summary. WritesEvent old summary result new)

  -- where no error is kept, the event is recorded, and the error is kept; else nothing changes
  abbrev pub ReportsEvent : RecordReporter S L N → TestEvent → RecordReporter S L N → Type 0
  ReportsEvent old event new =
      MatchOption old.error (Records old.recorder event (returned new.error) new.recorder)
      (λ _. new ≡ old)

module _ {S L N : Type 0} (taken : S → Option (List ℕ)) (faults : S → ℕ) where
  -- how a recorder's own call ends it: what it returns, and the sinks that it leaves
  pub record Finishes (old : Recording S L N) (result : Result StoreSizes RunStoreError)
      (store_left : S) (log_left : L) : Type 0 where
    pub log : log_left ≡ old.log
    pub ok : IfOk result (λ sizes. (has_failed old ≡ false) × (sizes ≡ sizes_of old)
        × Appends (taken old.store.sink) (taken store_left) (ending old.store.entries))
    pub sound : AreFrom [] old.store.entries
    pub err : IfErr result (Unended taken faults old store_left)
    pub later : faults old.store.sink ≤ faults store_left

  -- the recorder ended by its own call, whose sinks are handed back; the kept error is returned, or
  -- where there is none what that call returned
  abbrev pub Ends : RecordReporter S L N → ReporterEnd S L → Type 0
  Ends old end =
      (ended : Result StoreSizes RunStoreError)
      × (Finishes old.recorder ended end.store end.log × (end.result ≡ end_result old.error ended))

  -- the end of a structured reporter: that of its record reporter, where one is set
  abbrev pub EndsSet : Option (RecordReporter S L N) → StructuredEnd S L → Type 0
  EndsSet None end = end ≡ record { sizes = None; error = None; sinks = None }
  EndsSet (Some old) end =
      (own : ReporterEnd S L) × (Ends old own × (end ≡ structured_end own.result own.store own.log))
