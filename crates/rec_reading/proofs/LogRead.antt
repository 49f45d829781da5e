-- What is read of a bundle's log.
use Rattle.std.proofs.Common.{◌≡◌, inl, inr, ℕ, List, Result, Ok, Err, Vec, Global, ap, sym, ◌∙◌}
use Rattle.rec_container.specs.Container.{Entry}
use Rattle.rec_container.specs.Reading.{◌>>=◌}
use Rattle.rec_codec.specs.Event.{RecordedEvent}
use Rattle.rec_codec.specs.Lines.{NumberedLine}
use Rattle.rec_portable.specs.declared.errors.PortableRecordingReadError.{
  PortableRecordingReadError,
}
use Rattle.rec_portable.specs.Errors.{Reads}
use Rattle.rec_portable.specs.OuterEntries.{log_part}
use Rattle.rec_errors.specs.declared.reading_error.ReadingError.{ReadingError}
use Rattle.rec_errors.specs.ReadingErrors.{bundle_error}
use Rattle.rec_reading.proofs.Opened.{of_bundle-refused, stage-passed, stage-refused}
use Rattle.rec_reading.specs.LogEvents.{ReadsEvents, events_of, run_events}
use Rattle.rec_reading.specs.LogLines.{log_lines}
use Rattle.rec_reading.specs.RunParts.{of_bundle}

module _ (limit : ℕ) (es : List Entry) where
  abbrev with_log : List ℕ → Result (List RecordedEvent) ReadingError
  with_log log = events_of (log_lines log)

  pub log-refused : (e : PortableRecordingReadError) → Reads (log_part limit es) (Err e)
      → ReadsEvents (run_events limit es) (Err (bundle_error e))
  log-refused e h =
      stage-refused (of_bundle (log_part limit es)) with_log (bundle_error e)
      (of_bundle-refused (log_part limit es) e h)

  module _ (log : List ℕ) (log_is : Reads (log_part limit es) (Ok log)) (ls : List NumberedLine)
      (same : ls ≡ log_lines log) where
    pub log-read : (r : Result (Vec RecordedEvent Global) ReadingError)
        → ReadsEvents (events_of ls) r → ReadsEvents (run_events limit es) r
    log-read (Ok events) h = ap (λ r. of_bundle r >>= with_log) log_is ∙ ap events_of (sym same) ∙ h
    log-read (Err e) (inl memory) = inl memory
    log-read (Err e) (inr refused) =
        stage-passed (of_bundle (log_part limit es)) with_log log e (ap of_bundle log_is)
        (inr (ap events_of (sym same) ∙ refused))
