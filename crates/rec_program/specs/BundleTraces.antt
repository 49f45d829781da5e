-- The trace that is printed of a bundle.
use Rattle.std.specs.Prelude.{◌≡◌, ⊤, ℕ, List, Option, None, Some, Result, Ok, Err}
use Rattle.rec_container.specs.Container.{Entry}
use Rattle.rec_container.specs.Reading.{◌>>=◌}
use Rattle.rec_format.specs.declared.manifest.PortableManifest.{PortableManifest}
use Rattle.rec_portable.specs.Judging.{judged}
use Rattle.rec_portable.specs.OuterEntries.{log_part}
use Rattle.rec_spans.specs.declared.errors.ChromeTraceError.{ChromeTraceError}
use Rattle.rec_spans.specs.declared.settings.ChromeTraceGroupBy.{ChromeTraceGroupBy}
use Rattle.rec_trace.specs.declared.settings.ChromeTraceMessageFormat.{ChromeTraceMessageFormat}
use Rattle.rec_trace.specs.PrintedTimeline.{PrintsTimeline}
use Rattle.rec_errors.specs.declared.reading_error.ReadingError.{ReadingError}
use Rattle.rec_errors.specs.ReadingErrors.{trace_error}
use Rattle.rec_reading.specs.LogLines.{log_lines}
use Rattle.rec_reading.specs.RunParts.{of_bundle}
use Rattle.rec_program.specs.LogTraces.{log_refusal, log_trace, plain_log}

-- the text of a log's trace, unless the log is refused
abbrev pub trace_unless : List ℕ → Option ChromeTraceError → Result (List ℕ) ReadingError
trace_unless text None = Ok text
trace_unless text (Some refusal) = Err (trace_error refusal)

module _ (g : ChromeTraceGroupBy) (format : ChromeTraceMessageFormat) where
  -- the text of the trace of a bundle with this manifest and this log
  abbrev pub bundle_trace : PortableManifest → List ℕ → List ℕ
  bundle_trace manifest log = log_trace g format manifest.run.nextest_version (log_lines log)

  -- the trace of a log, recorded by the version of the runner that the manifest names
  abbrev pub trace_of_parts : PortableManifest → List ℕ → Result (List ℕ) ReadingError
  trace_of_parts manifest log =
      trace_unless (bundle_trace manifest log) (log_refusal g (log_lines log))

  abbrev pub trace_of : ℕ → List Entry → Result (List ℕ) ReadingError
  trace_of limit es = do
    manifest ← of_bundle (judged limit es)
    log ← of_bundle (log_part limit es)
    trace_of_parts manifest log

-- a text is one in which a viewer reads the timeline of the events of the log among these entries
abbrev pub ShowsTimeline : ChromeTraceGroupBy → ℕ → List Entry → Result (List ℕ) ReadingError
    → Type 0
ShowsTimeline g limit es (Ok text) =
    (manifest : PortableManifest) (log : List ℕ) → judged limit es ≡ Ok manifest
    → log_part limit es ≡ Ok log
    → PrintsTimeline manifest.run.nextest_version g (plain_log (log_lines log)) text
ShowsTimeline g limit es (Err e) = ⊤

-- what is printed of entries under a limit is what the function of them gives,
-- and shows their timeline
abbrev pub PrintsTrace : ChromeTraceGroupBy → ChromeTraceMessageFormat → ℕ → List Entry
    → Result (List ℕ) ReadingError → Type 0
PrintsTrace g format limit es r = (trace_of g format limit es ≡ r) × ShowsTimeline g limit es r
