-- What is printed of a bundle.
use Rattle.std.specs.declared.alloc.Global.{Global}
use Rattle.std.specs.Prelude.{◌≡◌, ◌⊎◌, ℕ, List, [], ◌∷◌, ◌++◌, None, Result, Ok, Err, Vec}
use Rattle.serde_json.specs.Written.{compact_text}
use Rattle.rec_container.specs.Container.{Entry}
use Rattle.rec_container.specs.Reading.{◌>>=◌}
use Rattle.rec_format.specs.declared.manifest.PortableManifest.{PortableManifest}
use Rattle.rec_format.specs.declared.run.RecordedRunInfo.{RecordedRunInfo}
use Rattle.rec_format.specs.RunForms.{manifest_value}
use Rattle.rec_format.specs.Runs.{info_of}
use Rattle.rec_portable.specs.Judging.{judged}
use Rattle.rec_replay.specs.declared.header.ReplayHeader.{ReplayHeader}
use Rattle.rec_replay.specs.declared.output_load.LoadOutput.TheVariants.{Load}
use Rattle.rec_replay.specs.declared.output_load.LoadOutput.{LoadOutput}
use Rattle.rec_replay.specs.Lines.{header_line}
use Rattle.rec_errors.specs.declared.reading_error.ReadingError.TheVariants.{OutOfMemory}
use Rattle.rec_errors.specs.declared.reading_error.ReadingError.{ReadingError}
use Rattle.rec_reading.specs.Converting.{converted_of}
use Rattle.rec_reading.specs.Printing.{Prints, before, line_prints, report_prints, text_from}
use Rattle.rec_reading.specs.RunParts.{RunParts, of_bundle, parts_of}

-- ---- the manifest

-- the text of a manifest and LF
abbrev pub manifest_line : PortableManifest → List ℕ
manifest_line manifest = compact_text (manifest_value manifest) ++ 10 ∷ []

abbrev pub info_printed : ℕ → List Entry → Result (List ℕ) ReadingError
info_printed limit es = do
  manifest ← of_bundle (judged limit es)
  Ok (manifest_line manifest)

-- ---- the events

-- the head of a run's replay; no other runs are known
abbrev pub header_of : RecordedRunInfo → ReplayHeader
header_of run = record {
  run_id = run.run_id;
  unique_prefix = None;
  started_at = run.started_at;
  status = run.status;
}

-- what a printer prints of a run
abbrev pub printed : Prints → LoadOutput → ℕ → RunParts → Result (List ℕ) ReadingError
printed prints load limit parts = text_from prints (converted_of load limit parts) [] parts.items

-- a replay has the line of its head, and then the line of each event
abbrev pub replay_of : LoadOutput → ℕ → List Entry → Result (List ℕ) ReadingError
replay_of load limit es = do
  manifest ← of_bundle (judged limit es)
  parts ← parts_of limit es
  before (header_line (header_of (info_of manifest.run))) (printed line_prints load limit parts)

-- the reports, with all outputs
abbrev pub report_of : ℕ → List Entry → Result (List ℕ) ReadingError
report_of limit es = do
  parts ← parts_of limit es
  printed (report_prints parts.mode) Load limit parts

-- ---- what a function that prints makes

-- this text or this refusal, as the relation says it; or memory ran out
abbrev pub Makes : (Result (List ℕ) ReadingError → Type 0) → Result (Vec ℕ Global) ReadingError
    → Type 0
Makes prints (Ok text) = prints (Ok text.items)
Makes prints (Err e) = (e ≡ OutOfMemory) ⊎ prints (Err e)

-- what is printed of entries under a limit is what a function of them gives
abbrev pub PrintsInfo : ℕ → List Entry → Result (List ℕ) ReadingError → Type 0
PrintsInfo limit es r = info_printed limit es ≡ r

abbrev pub PrintsReplay : LoadOutput → ℕ → List Entry → Result (List ℕ) ReadingError → Type 0
PrintsReplay load limit es r = replay_of load limit es ≡ r

abbrev pub PrintsReport : ℕ → List Entry → Result (List ℕ) ReadingError → Type 0
PrintsReport limit es r = report_of limit es ≡ r
