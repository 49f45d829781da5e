-- What is printed of a bundle's events, stage by stage.
use Rattle.std.proofs.Common.{◌≡◌, inl, inr, ℕ, List, ◌++◌, Result}
use Rattle.std.proofs.Common.{Ok, Err, Vec, Global, sym, ap, ◌∙◌}
use Rattle.rec_container.proofs.Unique.{one_reading_spec}
use Rattle.rec_container.specs.Container.{Entry, IsContainer}
use Rattle.rec_container.specs.Reading.{◌>>=◌}
use Rattle.rec_format.specs.declared.manifest.PortableManifest.{PortableManifest}
use Rattle.rec_format.specs.Runs.{info_of}
use Rattle.rec_portable.specs.Judging.{IsJudged, judged}
use Rattle.rec_replay.specs.declared.output_load.LoadOutput.{LoadOutput}
use Rattle.rec_replay.specs.Lines.{header_line}
use Rattle.rec_errors.specs.declared.reading_error.ReadingError.{ReadingError}
use Rattle.rec_reading.proofs.Opened.{stage-passed, stage-refused}
use Rattle.rec_reading.specs.declared.parts.OpenRun.{OpenRun}
use Rattle.rec_reading.specs.Listing.{Makes, PrintsReplay, header_of, printed, replay_of}
use Rattle.rec_reading.specs.Printing.{Adds, before, line_prints}
use Rattle.rec_reading.specs.RunParts.{OpensRun, RunParts, of_bundle, parts_in, parts_of}

-- bytes have one list of entries, and so one manifest
pub judged_of : (bytes : List ℕ) (limit : ℕ) (r : Result PortableManifest _) (es : List Entry)
    → IsJudged bytes limit r → IsContainer bytes es → judged limit es ≡ r
judged_of bytes limit r es (fs, spelled, is) other =
    ap (judged limit) (one_reading_spec bytes es fs other spelled) ∙ is

module _ (load : LoadOutput) (limit : ℕ) (bytes : List ℕ) (manifest : PortableManifest)
    (read : IsJudged bytes limit (Ok manifest)) (es : List Entry) (is : IsContainer bytes es) where
  abbrev head : List ℕ
  head = header_line (header_of (info_of manifest.run))

  abbrev with_parts : PortableManifest → RunParts → Result (List ℕ) ReadingError
  with_parts m parts =
      before (header_line (header_of (info_of m.run))) (printed line_prints load limit parts)

  abbrev with_manifest : PortableManifest → Result (List ℕ) ReadingError
  with_manifest m = parts_of limit es >>= with_parts m

  read_manifest : of_bundle (judged limit es) ≡ Ok manifest
  read_manifest = ap of_bundle (judged_of bytes limit (Ok manifest) es read is)

  -- want of memory for the head
  pub head-wanting : (e : ReadingError) → Makes (λ r. Ok head ≡ r) (Err e)
      → Makes (PrintsReplay load limit es) (Err e)
  head-wanting e (inl memory) = inl memory
  head-wanting e (inr never) = absurd cc

  -- a part that isn't read
  pub run-refused : (e : ReadingError) → OpensRun limit (parts_of limit es) (Err e)
      → Makes (PrintsReplay load limit es) (Err e)
  run-refused e h =
      stage-passed (of_bundle (judged limit es)) with_manifest manifest e read_manifest
      (stage-refused (parts_of limit es) (with_parts manifest) e h)

  module _ (run : OpenRun) (opened : OpensRun limit (parts_of limit es) (Ok run)) where
    -- an event that isn't read, converted or printed
    pub events-refused : (old new : List ℕ) (e : ReadingError)
        → Adds (printed line_prints load run.store.limit (parts_in run)) old new (Err e)
        → Makes (PrintsReplay load limit es) (Err e)
    events-refused old new e (inl memory) = inl memory
    events-refused old new e (inr refused) =
        stage-passed (of_bundle (judged limit es)) with_manifest manifest e read_manifest
        (stage-passed (parts_of limit es) (with_parts manifest) (parts_in run) e opened.1
        (inr (ap (λ n. before head (printed line_prints load n (parts_in run))) (sym opened.0)
        ∙ ap (before head) refused)))

    -- all of them
    pub replayed-all : (text : Vec ℕ Global) (new : List ℕ) → Makes (λ r. Ok head ≡ r) (Ok text)
        → Adds (printed line_prints load run.store.limit (parts_in run)) text.items new (Ok tt)
        → replay_of load limit es ≡ Ok new
    replayed-all text new begun (added, shown, written) =
        let start : head ≡ text.items = cc in
        ap (λ r. r >>= with_manifest) read_manifest
        ∙ ap (λ r. r >>= with_parts manifest) opened.1
        ∙ ap (λ n. before head (printed line_prints load n (parts_in run))) (sym opened.0)
        ∙ ap (before head) shown
        ∙ ap (λ t. Ok (t ++ added)) start
        ∙ ap Ok (sym written)
