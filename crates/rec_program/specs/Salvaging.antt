-- What `salvage` makes of a bundle, and why it makes nothing.
use Rattle.std.specs.Borrow.{Bor}
use Rattle.std.specs.Prelude.{◌≡◌, ◌⊎◌, ℕ, List, Option, Some, None, Result, Ok, Err, codes}
use Rattle.rec_container.specs.Container.{Entry, content_of}
use Rattle.rec_container.specs.Reading.{◌>>=◌}
use Rattle.rec_container.specs.WholePrefixes.{IsWholePrefix}
use Rattle.rec_format.specs.declared.manifest.PortableManifest.{PortableManifest}
use Rattle.rec_format.specs.declared.run.RecordedRunInfo.{RecordedRunInfo}
use Rattle.rec_format.specs.Runs.{info_of}
use Rattle.rec_store.specs.Entries.{store_name}
use Rattle.rec_portable.specs.declared.errors.PortableRecordingReadError.TheVariants as bundles
use Rattle.rec_portable.specs.declared.errors.PortableRecordingReadError.{
  PortableRecordingReadError,
}
use Rattle.rec_portable.specs.Judging.{judged}
use Rattle.rec_portable.specs.OuterEntries.{log_part}
use Rattle.rec_salvage.specs.declared.errors.SalvageError.TheVariants as salvages
use Rattle.rec_salvage.specs.declared.errors.SalvageError.{SalvageError}
use Rattle.rec_salvage.specs.declared.salvaging.Salvaged.{Salvaged}
use Rattle.rec_salvage.specs.Refusals.{IsRefusal, IsRefused, prefix_refusal}
use Rattle.rec_salvage.specs.Salvages.{Salvages}
use Rattle.rec_faults.specs.FaultLine.{Shown, no_fields, sink_shown, variant}
use Rattle.rec_faults.specs.ReadingLine.{bundle_shown}
use Rattle.rec_faults.specs.Status.{bundle_status}
use Rattle.rec_faults.specs.WritingCommands.{salvage_shown, salvage_status}
use Rattle.rec_program.specs.declared.salvage_refusal.SalvageRefusal.TheVariants.{
  Bundle,
  Store,
  BundleFailed,
  OutOfMemory,
}
use Rattle.rec_program.specs.declared.salvage_refusal.SalvageRefusal.{SalvageRefusal}

-- ---- what a bundle holds of a run that was stopped

-- its run, its log, and its store, which may both be cut off
pub record StoppedRun : Type 0 where
  pub run : RecordedRunInfo
  pub log : List ℕ
  pub store : List ℕ

abbrev pub store_found : Option (List ℕ) → Result (List ℕ) PortableRecordingReadError
store_found None = Err (bundles.MissingFile store_name)
store_found (Some bytes) = Ok bytes

-- with this manifest: a log that is missing or too long comes before a store that is missing
abbrev pub stopped_with : ℕ → List Entry → PortableManifest
    → Result StoppedRun PortableRecordingReadError
stopped_with limit es manifest =
    log_part limit es >>= (λ log. store_found (content_of es store_name)
    >>= (λ store. Ok (record { run = info_of manifest.run; log = log; store = store })))

abbrev pub stopped_run : ℕ → List Entry → Result StoppedRun PortableRecordingReadError
stopped_run limit es = judged limit es >>= stopped_with limit es

-- bytes are lent as they were found, or not for this reason
abbrev pub LendsFound : Result (List ℕ) PortableRecordingReadError
    → Result (Bor (List ℕ)) PortableRecordingReadError → Type 0
LendsFound found (Ok bytes) = found ≡ Ok bytes.now
LendsFound found (Err e) = (e ≡ bundles.OutOfMemory) ⊎ (found ≡ Err e)

-- ---- refusals

abbrev pub bundle_refusal : PortableRecordingReadError → SalvageRefusal
bundle_refusal bundles.OutOfMemory = OutOfMemory
bundle_refusal e = Bundle e

abbrev pub store_refusal : SalvageError → SalvageRefusal
store_refusal salvages.OutOfMemory = OutOfMemory
store_refusal e = Store e

abbrev pub refusal_shown : SalvageRefusal → Shown
refusal_shown (Bundle e) = bundle_shown e
refusal_shown (Store e) = salvage_shown e
refusal_shown BundleFailed = sink_shown
refusal_shown OutOfMemory = variant (codes "OutOfMemory") no_fields

abbrev pub refusal_status : SalvageRefusal → ℕ
refusal_status (Bundle e) = bundle_status e
refusal_status (Store e) = salvage_status e
refusal_status BundleFailed = 10
refusal_status OutOfMemory = 70

-- the store is refused so: by its whole prefix, where it has one
pub record RefusesStore (store : List ℕ) (e : SalvageError) : Type 0 where
  pub refused : IsRefused store e
  pub first : (es : List Entry) → IsWholePrefix store es → IsRefusal (prefix_refusal es) e

-- ---- what is made

-- this is salvaged of the entries of a bundle under a read limit; or the run isn't all there,
-- or its store is refused
abbrev pub SalvagesRun : ℕ → List Entry → Result Salvaged SalvageRefusal → Type 0
SalvagesRun limit es (Ok s) =
    (stopped : StoppedRun) × (stopped_run limit es ≡ Ok stopped)
    × Salvages stopped.run stopped.log stopped.store s
SalvagesRun limit es (Err e) =
    ((fault : PortableRecordingReadError) × (stopped_run limit es ≡ Err fault)
    × (e ≡ bundle_refusal fault))
    ⊎ ((stopped : StoppedRun) × (fault : SalvageError) × (stopped_run limit es ≡ Ok stopped)
    × RefusesStore stopped.store fault × (e ≡ store_refusal fault))

-- a function makes this, or memory ran out
abbrev pub MakesSalvage : (Result Salvaged SalvageRefusal → Type 0) → Result Salvaged SalvageRefusal
    → Type 0
MakesSalvage salvages (Ok s) = salvages (Ok s)
MakesSalvage salvages (Err e) = (e ≡ OutOfMemory) ⊎ salvages (Err e)
