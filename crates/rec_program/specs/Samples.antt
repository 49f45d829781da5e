-- What `sample` records of a generated session, and what it prints.
use Rattle.std.specs.Io.KnownBytes.{Appends}
use Rattle.std.specs.Prelude.{◌≡◌, ◌⊎◌, ℕ, ◌<◌, ◌≤◌, List, length, Option, Some}
use Rattle.rec_container.specs.Causes.{Rose}
use Rattle.rec_container.specs.Taking.{TookPart}
use Rattle.rec_store.specs.Bundle.{outputs_stored}
use Rattle.rec_errors.specs.declared.export_error.RecordExportError.TheVariants.{
  BundleFault,
  OutOfMemory,
  SessionTooLarge,
  TraceFault,
}
use Rattle.rec_errors.specs.declared.export_error.RecordExportError.{RecordExportError}
use Rattle.rec_export.specs.Bundle.{AreOf, session_events, session_refusal}
use Rattle.rec_export.specs.declared.counts.Exported.{Exported}
use Rattle.rec_export.specs.declared.settings.Settings.{Settings}
use Rattle.rec_export.specs.Export.{CountsOf}
use Rattle.rec_program.specs.Counts.{counts_line}

-- the line that counts the events of a session, and its outputs that are stored
abbrev pub session_counts : (List ℕ → ℕ) → Settings → List ℕ → List ℕ
session_counts number settings session =
    counts_line (length (session_events session))
    (length (outputs_stored number settings.max_output (session_events session)))

-- the trace goes into memory, so its fault is want of memory
abbrev pub sample_error : RecordExportError → RecordExportError
sample_error TraceFault = OutOfMemory
sample_error e = e

module _ {B : Type 0} (taken : B → Option (List ℕ)) (number : List ℕ → ℕ) (settings : Settings)
    (session : List ℕ) where
  -- the session is within the limit, and the bundle's sink took its bundle,
  -- of which this is counted
  abbrev pub MakesSample : B → B → Exported → Type 0
  MakesSample b0 b1 exported =
      (bundle : List ℕ) × (trace : List ℕ) × (length session ≤ settings.session_limit)
      × AreOf number settings session bundle trace
      × Appends (taken b0) (taken b1) bundle
      × CountsOf number settings.max_output session bundle trace exported

  -- the session is within the limit, and the bundle's sink took its bundle
  abbrev pub TakesSample : B → B → Type 0
  TakesSample b0 b1 =
      (bundle : List ℕ) × (trace : List ℕ) × (length session ≤ settings.session_limit)
      × AreOf number settings session bundle trace
      × Appends (taken b0) (taken b1) bundle

  -- the bundle's sink took the bundle of the session, and this is the line with its counts
  abbrev pub Samples : B → B → List ℕ → Type 0
  Samples b0 b1 line = TakesSample b0 b1 × (line ≡ session_counts number settings session)

module _ {B : Type 0} (taken : B → Option (List ℕ)) (faults : B → ℕ) (number : List ℕ → ℕ)
    (settings : Settings) (session : List ℕ) where
  -- the session is within the limit, and the bundle's sink failed,
  -- and took a proper prefix of its bundle
  abbrev pub TakesPart : B → B → Type 0
  TakesPart b0 b1 =
      (bundle : List ℕ) × (trace : List ℕ) × (length session ≤ settings.session_limit)
      × AreOf number settings session bundle trace
      × Rose (faults b0) (faults b1) × TookPart (taken b0) (taken b1) bundle

  -- why a generated session isn't recorded: it is longer than the limit, or it is refused, and the
  -- bundle's sink is as it was; or the sink failed; or memory ran out before the first byte of the
  -- bundle, or after its last
  abbrev pub SampleFails : B → B → RecordExportError → Type 0
  SampleFails b0 b1 e =
      ((e ≡ SessionTooLarge settings.session_limit) × (settings.session_limit < length session)
      × (b1 ≡ b0))
      ⊎ ((length session ≤ settings.session_limit)
      × (session_refusal number settings session ≡ Some e) × (b1 ≡ b0))
      ⊎ ((e ≡ BundleFault) × TakesPart b0 b1)
      ⊎ ((e ≡ OutOfMemory) × ((b1 ≡ b0) ⊎ TakesSample taken number settings session b0 b1))
