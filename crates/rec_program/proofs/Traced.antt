-- What is printed of a bundle's log.
use Rattle.std.proofs.Common.{◌≡◌, ◌⊎◌, inl, inr, ℕ, List, None, Some}
use Rattle.std.proofs.Common.{Result, Ok, Err, sym, ap, ◌∙◌, subst}
use Rattle.rec_container.proofs.Results.{Ok-injective}
use Rattle.rec_container.specs.Container.{Entry, IsContainer}
use Rattle.rec_container.specs.Reading.{◌>>=◌}
use Rattle.rec_format.specs.declared.manifest.PortableManifest.{PortableManifest}
use Rattle.rec_codec.specs.Lines.{NumberedLine}
use Rattle.rec_portable.specs.declared.errors.PortableRecordingReadError.TheVariants as bundles
use Rattle.rec_portable.specs.declared.errors.PortableRecordingReadError.{
  PortableRecordingReadError,
}
use Rattle.rec_portable.specs.Judging.{IsJudged, judged}
use Rattle.rec_portable.specs.OuterEntries.{log_part}
use Rattle.rec_spans.specs.declared.errors.ChromeTraceError.TheVariants as traces
use Rattle.rec_spans.specs.declared.errors.ChromeTraceError.{ChromeTraceError}
use Rattle.rec_spans.specs.declared.settings.ChromeTraceGroupBy.{ChromeTraceGroupBy}
use Rattle.rec_trace.specs.declared.settings.ChromeTraceMessageFormat.{ChromeTraceMessageFormat}
use Rattle.rec_trace.specs.PrintedTimeline.{PrintsTimeline}
use Rattle.rec_errors.specs.declared.reading_error.ReadingError.TheVariants.{OutOfMemory}
use Rattle.rec_errors.specs.declared.reading_error.ReadingError.{ReadingError}
use Rattle.rec_errors.specs.ReadingErrors.{bundle_error, trace_error}
use Rattle.rec_reading.proofs.Listed.{judged_of}
use Rattle.rec_reading.specs.LogLines.{log_lines}
use Rattle.rec_reading.specs.RunParts.{of_bundle}
use Rattle.rec_program.specs.BundleTraces.{PrintsTrace, bundle_trace, trace_of}
use Rattle.rec_program.specs.BundleTraces.{trace_of_parts, trace_unless}
use Rattle.rec_program.specs.LogTraces.{log_refusal, log_trace, plain_log}

module _ (limit : ℕ) (bytes : List ℕ) (manifest : PortableManifest)
    (has : IsJudged bytes limit (Ok manifest)) (es : List Entry) (is : IsContainer bytes es) where
  manifest_at : of_bundle (judged limit es) ≡ Ok manifest
  manifest_at = ap of_bundle (judged_of bytes limit (Ok manifest) es has is)

  module _ (g : ChromeTraceGroupBy) (format : ChromeTraceMessageFormat) where
    of_log : trace_of g format limit es
        ≡ (of_bundle (log_part limit es) >>= trace_of_parts g format manifest)
    of_log =
        ap (λ r. r >>= (λ m. of_bundle (log_part limit es) >>= trace_of_parts g format m))
        manifest_at

    -- the log isn't read
    pub no_log : (fault : PortableRecordingReadError)
        → (fault ≡ bundles.OutOfMemory) ⊎ (log_part limit es ≡ Err fault)
        → (bundle_error fault ≡ OutOfMemory)
        ⊎ PrintsTrace g format limit es (Err (bundle_error fault))
    no_log fault (inl h) = inl (ap bundle_error h)
    no_log fault (inr h) =
        inr (of_log ∙ ap (λ r. of_bundle r >>= trace_of_parts g format manifest) h, tt)

    module _ (log : List ℕ) (has_log : log_part limit es ≡ Ok log) where
      drawn_of : trace_of g format limit es ≡ trace_of_parts g format manifest log
      drawn_of = of_log ∙ ap (λ r. of_bundle r >>= trace_of_parts g format manifest) has_log

      -- the log has no trace
      pub no_trace : (ls : List NumberedLine) → ls ≡ log_lines log → (e : ChromeTraceError)
          → (e ≡ traces.OutOfMemory) ⊎ (log_refusal g ls ≡ Some e)
          → (trace_error e ≡ OutOfMemory) ⊎ PrintsTrace g format limit es (Err (trace_error e))
      no_trace ls same e (inl h) = inl (ap trace_error h)
      no_trace ls same e (inr h) = inr (
        drawn_of ∙ ap (trace_unless (bundle_trace g format manifest log))
            (ap (log_refusal g) (sym same) ∙ h),
        tt,
      )

      -- the log has this trace
      pub the_trace : (ls : List NumberedLine) → ls ≡ log_lines log → (text : List ℕ)
          → log_refusal g ls ≡ None
          → text ≡ log_trace g format manifest.run.nextest_version ls
          → PrintsTimeline manifest.run.nextest_version g (plain_log ls) text
          → PrintsTrace g format limit es (Ok text)
      the_trace ls same text none written printed = (
        drawn_of
            ∙ ap (trace_unless (bundle_trace g format manifest log))
            (ap (log_refusal g) (sym same) ∙ none)
            ∙ ap (λ (l : List NumberedLine). let r : Result (List ℕ) ReadingError =
            Ok (log_trace g format manifest.run.nextest_version l) in r) (sym same)
            ∙ ap Ok (sym written),
        (λ m l judged_is log_is. shown m l (Ok-injective PortableRecordingReadError manifest m
            (sym (judged_of bytes limit (Ok manifest) es has is) ∙ judged_is))
            (Ok-injective PortableRecordingReadError log l (sym has_log ∙ log_is))),
      )
        where
          shown : (m : PortableManifest) (l : List ℕ) → manifest ≡ m → log ≡ l
              → PrintsTimeline m.run.nextest_version g (plain_log (log_lines l)) text
          shown m l m_is l_is =
              subst (λ (x : PortableManifest).
              PrintsTimeline x.run.nextest_version g (plain_log (log_lines l)) text)
              m_is
              (subst (λ (x : List ℕ).
              PrintsTimeline manifest.run.nextest_version g (plain_log (log_lines x)) text) l_is
              (subst (λ (x : List NumberedLine).
              PrintsTimeline manifest.run.nextest_version g (plain_log x) text) same printed))
