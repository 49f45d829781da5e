-- The reports of a bundle are those of its run.
use Rattle.std.proofs.Common.{◌≡◌, ℕ, List, [], Result, Err, Ok, Vec, Global, ap, sym, subst, ◌∙◌}
use Rattle.rec_container.specs.Container.{Entry}
use Rattle.rec_container.specs.Reading.{◌>>=◌}
use Rattle.rec_events.specs.declared.recording.NextestRunMode.{NextestRunMode}
use Rattle.rec_replay.specs.declared.output_load.LoadOutput.TheVariants.{Load}
use Rattle.rec_errors.specs.declared.reading_error.ReadingError.{ReadingError}
use Rattle.rec_reading.specs.declared.parts.OpenRun.{OpenRun}
use Rattle.rec_reading.specs.Listing.{Makes, PrintsReport, printed, report_of}
use Rattle.rec_reading.specs.Printing.{Adds, report_prints}
use Rattle.rec_reading.specs.RunParts.{OpensRun, RunParts, parts_in, parts_of}

-- an event that isn't read, converted or printed, by a printer for the run's mode
pub events-refused : (limit : ℕ) (parts : RunParts) (mode of_printer : NextestRunMode)
    → of_printer ≡ mode → (new : List ℕ) (e : ReadingError)
    → Adds (printed (report_prints of_printer) Load limit parts) [] new (Err e)
    → Makes (λ r. printed (report_prints mode) Load limit parts ≡ r) (Err e)
events-refused limit parts mode of_printer same new e h =
    subst
    (λ (m : NextestRunMode). Makes (λ r. printed (report_prints m) Load limit parts ≡ r) (Err e))
    same h

module _ (limit : ℕ) (es : List Entry) (run : OpenRun)
    (opened : OpensRun limit (parts_of limit es) (Ok run)) where
  reports_are : report_of limit es
      ≡ printed (report_prints run.mode) Load run.store.limit (parts_in run)
  reports_are =
      ap (λ r. r >>= (λ (parts : RunParts). printed (report_prints parts.mode) Load limit parts))
      opened.1
      ∙ ap (λ (n : ℕ). printed (report_prints run.mode) Load n (parts_in run)) (sym opened.0)

  pub reported : (result : Result (Vec ℕ Global) ReadingError)
      → Makes (λ r. printed (report_prints run.mode) Load run.store.limit (parts_in run) ≡ r) result
      → Makes (PrintsReport limit es) result
  reported result h =
      subst (λ (expected : Result (List ℕ) ReadingError). Makes (λ r. expected ≡ r) result)
      (sym reports_are) h
