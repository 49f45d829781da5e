-- What is printed of a bundle's run for those who look at it.
use Rattle.std.proofs.Common.{◌≡◌, ◌++◌, inl, inr, ℕ, List, Result, Ok, Err}
use Rattle.std.proofs.Common.{ap, sym, ◌∙◌}
use Rattle.rec_container.specs.Container.{Entry, IsContainer}
use Rattle.rec_container.specs.Reading.{◌>>=◌}
use Rattle.rec_format.specs.declared.manifest.PortableManifest.{PortableManifest}
use Rattle.rec_format.specs.declared.run.RecordedRun.{RecordedRun}
use Rattle.rec_codec.specs.Event.{RecordedEvent}
use Rattle.rec_portable.specs.Judging.{IsJudged, judged}
use Rattle.rec_replay.specs.declared.output_load.LoadOutput.{LoadOutput}
use Rattle.rec_errors.specs.declared.reading_error.ReadingError.{ReadingError}
use Rattle.rec_reading.proofs.Listed.{judged_of}
use Rattle.rec_reading.proofs.Opened.{Refused, stage-passed, stage-refused}
use Rattle.rec_reading.specs.Listing.{Makes}
use Rattle.rec_reading.specs.LogEvents.{run_events}
use Rattle.rec_reading.specs.Printing.{before}
use Rattle.rec_reading.specs.RunParts.{of_bundle}
use Rattle.rec_reading.specs.Views.{PrintsView, outputs_if, view_line, view_of}

module _ (load : LoadOutput) (limit : ℕ) (bytes : List ℕ) (manifest : PortableManifest)
    (read : IsJudged bytes limit (Ok manifest)) (es : List Entry) (is : IsContainer bytes es) where
  abbrev with_events : PortableManifest → List RecordedEvent → Result (List ℕ) ReadingError
  with_events m events = before (view_line m.run events) (outputs_if load es events)

  abbrev with_manifest : PortableManifest → Result (List ℕ) ReadingError
  with_manifest m = run_events limit es >>= with_events m

  manifest_at : of_bundle (judged limit es) ≡ Ok manifest
  manifest_at = ap of_bundle (judged_of bytes limit (Ok manifest) es read is)

  -- the events aren't read
  pub view-unread : (e : ReadingError) → Refused (run_events limit es) e
      → Makes (PrintsView load limit es) (Err e)
  view-unread e h =
      stage-passed (of_bundle (judged limit es)) with_manifest manifest e manifest_at
      (stage-refused (run_events limit es) (with_events manifest) e h)

  module _ (events : List RecordedEvent) (all : run_events limit es ≡ Ok events) where
    -- the outputs aren't read
    pub outputs-unread : (e : ReadingError) → Refused (outputs_if load es events) e
        → Refused (view_of load limit es) e
    outputs-unread e (inl memory) = inl memory
    outputs-unread e (inr refused) =
        stage-passed (of_bundle (judged limit es)) with_manifest manifest e manifest_at
        (stage-passed (run_events limit es) (with_events manifest) events e all
        (inr (ap (before (view_line manifest.run events)) refused)))

    -- all is read
    pub parts-read : (copy : RecordedRun) (outputs : List ℕ) → copy ≡ manifest.run
        → outputs_if load es events ≡ Ok outputs
        → view_of load limit es ≡ Ok (view_line copy events ++ outputs)
    parts-read copy outputs copied is =
        ap (λ r. r >>= with_manifest) manifest_at ∙ ap (λ r. r >>= with_events manifest) all
        ∙ ap (before (view_line manifest.run events)) is
        ∙ ap (λ run. Ok (view_line run events ++ outputs)) (sym copied)
