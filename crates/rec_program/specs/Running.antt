-- What the program does with its words.
use Rattle.std.specs.declared.alloc.Global.{Global}
use Rattle.std.specs.Io.KnownBytes.{Appends}
use Rattle.std.specs.Prelude.{◌≡◌, ℕ, List, Option, Ok, Err, Result, Vec, ◌⊎◌}
use Rattle.rec_container.specs.Causes.{Rose}
use Rattle.rec_container.specs.Container.{Entry}
use Rattle.rec_container.specs.Taking.{TookPart}
use Rattle.rec_disk.specs.Disks.{Files}
use Rattle.rec_portable.specs.declared.errors.PortableRecordingReadError.{
  PortableRecordingReadError,
}
use Rattle.rec_portable.specs.declared.upgrade_error.UpgradeError.{UpgradeError}
use Rattle.rec_portable.specs.declared.upgrades.Upgraded.{Upgraded}
use Rattle.rec_portable.specs.Upgrades.{NotUpgraded, Upgrades}
use Rattle.rec_salvage.specs.declared.salvaging.Salvaged.{Salvaged}
use Rattle.rec_errors.specs.declared.export_error.RecordExportError.{RecordExportError}
use Rattle.rec_errors.specs.declared.reading_error.ReadingError.{ReadingError}
use Rattle.rec_errors.specs.declared.words_error.WordsError.{WordsError}
use Rattle.rec_errors.specs.ReadingErrors.{bundle_error}
use Rattle.rec_reading.specs.Listing.{PrintsInfo, PrintsReplay, PrintsReport}
use Rattle.rec_reading.specs.Reruns.{PrintsRerun}
use Rattle.rec_reading.specs.Slots.{PrintsSlots}
use Rattle.rec_reading.specs.Views.{PrintsView}
use Rattle.rec_sample.specs.Session.{sample_session}
use Rattle.rec_export.specs.declared.counts.Exported.{Exported}
use Rattle.rec_export.specs.declared.settings.Settings.{Settings}
use Rattle.rec_export.specs.Export.{Exports, Fails}
use Rattle.rec_live_recording.specs.declared.errors.LiveError.{LiveError}
use Rattle.rec_live_recording.specs.declared.live.RunFiles.{RunFiles}
use Rattle.rec_packing.specs.declared.errors.PackError.TheVariants as packs
use Rattle.rec_packing.specs.declared.errors.PackError.{PackError}
use Rattle.rec_packing.specs.declared.packing.Packed.{Packed}
use Rattle.rec_packing.specs.Packing.{IsRefused, LeavesFiles, Packs}
use Rattle.rec_words.specs.declared.usage.TheConstants.{USAGE}
use Rattle.rec_words.specs.Usage.{versions_text}
use Rattle.rec_words.specs.Words.{Asked, recording, tracing, replaying}
use Rattle.rec_words.specs.Words.{reporting, informing, slotting, rerunning, viewing}
use Rattle.rec_words.specs.Words.{sampling, upgrading, salvaging, living, packing, help, version}
use Rattle.rec_faults.specs.DirectoryCommands.{live_shown, live_status, pack_shown, pack_status}
use Rattle.rec_faults.specs.FaultLine.{Shown, export_shown, line, sink_shown, words_shown}
use Rattle.rec_faults.specs.ReadingLine.{reading_shown}
use Rattle.rec_faults.specs.Status.{export_status, reading_status, words_status}
use Rattle.rec_faults.specs.WritingCommands.{upgrade_shown, upgrade_status}
use Rattle.rec_faults.specs.WritingFaults.{WritesFault}
use Rattle.rec_program.specs.BundleTraces.{PrintsTrace}
use Rattle.rec_program.specs.Counts.{counts_line, packed_line}
use Rattle.rec_program.specs.declared.salvage_refusal.SalvageRefusal.TheVariants.{BundleFailed}
use Rattle.rec_program.specs.declared.salvage_refusal.SalvageRefusal.{SalvageRefusal}
use Rattle.rec_program.specs.LiveRuns.{Lives}
use Rattle.rec_program.specs.Objects.{Objects}
use Rattle.rec_program.specs.ReadingCommands.{Shows, Withholds}
use Rattle.rec_program.specs.Salvaging.{SalvagesRun, bundle_refusal, refusal_shown, refusal_status}
use Rattle.rec_program.specs.Samples.{SampleFails, Samples}

module _ {E G : Type 0} (shown : E → Shown) (status_of : E → ℕ) (diag_taken : G → Option (List ℕ))
    (diag_faults : G → ℕ) where
  -- the refusal is the status, and is reported
  abbrev pub Refuses : E → ℕ → G → G → Type 0
  Refuses e status d0 d1 =
      (status ≡ status_of e) × WritesFault diag_taken diag_faults d0 d1 (line (shown e))

module _ {T G : Type 0} (out_taken : T → Option (List ℕ)) (out_faults : T → ℕ)
    (diag_taken : G → Option (List ℕ)) (diag_faults : G → ℕ) where
  -- the text was printed; or the output failed, which was reported
  abbrev pub Prints : List ℕ → ℕ → T → T → G → G → Type 0
  Prints text status o0 o1 d0 d1 =
      ((status ≡ 0) × Appends (out_taken o0) (out_taken o1) text × (d1 ≡ d0))
      ⊎ ((status ≡ 11) × Rose (out_faults o0) (out_faults o1)
      × TookPart (out_taken o0) (out_taken o1) text
      × WritesFault diag_taken diag_faults d0 d1 (line sink_shown))

module _ {E T G : Type 0} (shown : E → Shown) (status_of : E → ℕ) (out_taken : T → Option (List ℕ))
    (out_faults : T → ℕ) (diag_taken : G → Option (List ℕ)) (diag_faults : G → ℕ) where
  -- what was made was printed; or nothing was made, and the cause is the status and is reported
  abbrev pub ShowsMade : Result (Vec ℕ Global) E → ℕ → T → T → G → G → Type 0
  ShowsMade (Ok text) status o0 o1 d0 d1 =
      Prints out_taken out_faults diag_taken diag_faults text.items status o0 o1 d0 d1
  ShowsMade (Err e) status o0 o1 d0 d1 =
      (o1 ≡ o0) × Refuses shown status_of diag_taken diag_faults e status d0 d1

module _ {E S T G : Type 0} (shown : E → Shown) (status_of : E → ℕ)
    (opening : PortableRecordingReadError → E) (left : S → Option (List ℕ)) (source_faults : S → ℕ)
    (out_taken : T → Option (List ℕ)) (out_faults : T → ℕ) (diag_taken : G → Option (List ℕ))
    (diag_faults : G → ℕ) where
  -- the bundle was read, and what the command prints of it was printed; or nothing is printed of
  -- it, and the cause is the status and is reported
  abbrev pub ShowsBundle : (ℕ → List Entry → Result (List ℕ) E → Type 0) → Settings → ℕ → S → S → T
      → T → G → G → Type 0
  ShowsBundle prints settings status s0 s1 o0 o1 d0 d1 =
      ((text : List ℕ) × Shows opening prints settings.read_limit left source_faults
      settings.session_limit s0 s1 text
      × Prints out_taken out_faults diag_taken diag_faults text status o0 o1 d0 d1)
      ⊎ ((e : E) × Withholds opening prints settings.read_limit left source_faults
      settings.session_limit s0 s1 e × (o1 ≡ o0)
      × Refuses shown status_of diag_taken diag_faults e status d0 d1)

module _ {S B T G : Type 0} (left : S → Option (List ℕ)) (source_faults : S → ℕ)
    (taken : B → Option (List ℕ)) (bundle_faults : B → ℕ) (out_taken : T → Option (List ℕ))
    (out_faults : T → ℕ) (diag_taken : G → Option (List ℕ)) (diag_faults : G → ℕ)
    (number : List ℕ → ℕ) where
  -- the session was exported, and nothing is reported; or it wasn't,
  -- and the cause is the status and is reported
  abbrev pub Records : Settings → ℕ → S → S → B → B → T → T → G → G → Type 0
  Records settings status s0 s1 b0 b1 o0 o1 d0 d1 =
      ((status ≡ 0) × ((exported : Exported) × Exports left source_faults taken bundle_faults
      out_taken out_faults number settings s0 s1 b0 b1 o0 o1 exported) × (d1 ≡ d0))
      ⊎ ((e : RecordExportError) × Fails left source_faults taken bundle_faults out_taken out_faults
      number settings s0 s1 b0 b1 o0 o1 e
      × Refuses export_shown export_status diag_taken diag_faults e status d0 d1)

module _ {B T G : Type 0} (taken : B → Option (List ℕ)) (bundle_faults : B → ℕ)
    (out_taken : T → Option (List ℕ)) (out_faults : T → ℕ) (diag_taken : G → Option (List ℕ))
    (diag_faults : G → ℕ) (number : List ℕ → ℕ) where
  -- the generated session was recorded, and the line with its counts was printed; or it wasn't, and
  -- the cause is the status and is reported
  abbrev pub RecordsSample : Settings → List ℕ → ℕ → B → B → T → T → G → G → Type 0
  RecordsSample settings session status b0 b1 o0 o1 d0 d1 =
      ((line : List ℕ) × Samples taken number settings session b0 b1 line
      × Prints out_taken out_faults diag_taken diag_faults line status o0 o1 d0 d1)
      ⊎ ((e : RecordExportError) × SampleFails taken bundle_faults number settings session b0 b1 e
      × (o1 ≡ o0)
      × Refuses export_shown export_status diag_taken diag_faults e status d0 d1)

module _ {S B G : Type 0} (left : S → Option (List ℕ)) (source_faults : S → ℕ)
    (taken : B → Option (List ℕ)) (bundle_faults : B → ℕ) (diag_taken : G → Option (List ℕ))
    (diag_faults : G → ℕ) where
  -- the bundle was upgraded, and nothing is reported; or it wasn't,
  -- and the cause is the status and is reported
  abbrev pub RunsUpgrade : Settings → ℕ → S → S → B → B → G → G → Type 0
  RunsUpgrade settings status s0 s1 b0 b1 d0 d1 =
      ((status ≡ 0) × ((u : Upgraded) × Upgrades left source_faults taken bundle_faults
      settings.session_limit settings.read_limit s0 s1 b0 b1 u) × (d1 ≡ d0))
      ⊎ ((e : UpgradeError) × NotUpgraded left source_faults taken bundle_faults
      settings.session_limit settings.read_limit s0 s1 b0 b1 e
      × Refuses upgrade_shown upgrade_status diag_taken diag_faults e status d0 d1)

module _ {B T G : Type 0} (taken : B → Option (List ℕ)) (bundle_faults : B → ℕ)
    (out_taken : T → Option (List ℕ)) (out_faults : T → ℕ) (diag_taken : G → Option (List ℕ))
    (diag_faults : G → ℕ) where
  -- what was salvaged was written, and the line with its counts was printed; or the bundle's sink
  -- failed, which was reported
  abbrev pub WritesSalvage : Salvaged → ℕ → B → B → T → T → G → G → Type 0
  WritesSalvage s status b0 b1 o0 o1 d0 d1 =
      (Appends (taken b0) (taken b1) s.bundle × Prints out_taken out_faults diag_taken diag_faults
      (counts_line s.events s.outputs) status o0 o1 d0 d1)
      ⊎ (Rose (bundle_faults b0) (bundle_faults b1) × TookPart (taken b0) (taken b1) s.bundle
      × (o1 ≡ o0)
      × Refuses refusal_shown refusal_status diag_taken diag_faults BundleFailed status d0 d1)

module _ {S B T G : Type 0} (left : S → Option (List ℕ)) (source_faults : S → ℕ)
    (taken : B → Option (List ℕ)) (bundle_faults : B → ℕ) (out_taken : T → Option (List ℕ))
    (out_faults : T → ℕ) (diag_taken : G → Option (List ℕ)) (diag_faults : G → ℕ) where
  -- a run was salvaged, and written; or it wasn't, and the cause is the status and is reported
  abbrev pub RunsSalvage : Settings → ℕ → S → S → B → B → T → T → G → G → Type 0
  RunsSalvage settings status s0 s1 b0 b1 o0 o1 d0 d1 =
      ((s : Salvaged) × Shows bundle_refusal SalvagesRun settings.read_limit left source_faults
      settings.session_limit s0 s1 s
      × WritesSalvage taken bundle_faults out_taken out_faults diag_taken diag_faults s status b0 b1
      o0 o1 d0 d1)
      ⊎ ((e : SalvageRefusal) × Withholds bundle_refusal SalvagesRun settings.read_limit left
      source_faults settings.session_limit s0 s1 e × (b1 ≡ b0) × (o1 ≡ o0)
      × Refuses refusal_shown refusal_status diag_taken diag_faults e status d0 d1)

module _ {G : Type 0} (diag_taken : G → Option (List ℕ)) (diag_faults : G → ℕ) where
  -- a recording that goes on was whole, and nothing is reported; or the cause is the status and is
  -- reported
  abbrev pub TellsEnd : Result ℕ LiveError → ℕ → G → G → Type 0
  TellsEnd (Ok count) status d0 d1 = (status ≡ 0) × (d1 ≡ d0)
  TellsEnd (Err e) status d0 d1 =
      Refuses live_shown live_status diag_taken diag_faults e status d0 d1

module _ {S F T G : Type 0} (left : S → Option (List ℕ)) (source_faults : S → ℕ)
    (file_taken : F → Option (List ℕ)) (file_faults : F → ℕ) (out_taken : T → Option (List ℕ))
    (out_faults : T → ℕ) (diag_taken : G → Option (List ℕ)) (diag_faults : G → ℕ)
    (number : List ℕ → ℕ) where
  -- the session was recorded into the files while it went on, to its end or not
  abbrev pub RunsLive : Settings → ℕ → S → S → RunFiles F F F → RunFiles F F F → T → T → G → G
      → Type 0
  RunsLive settings status s0 s1 f0 f1 o0 o1 d0 d1 =
      (result : Result ℕ LiveError)
      × Lives left source_faults file_taken file_faults out_taken out_faults number
      settings.max_output settings.session_limit s0 s1 f0 f1 o0 o1 result
      × TellsEnd diag_taken diag_faults result status d0 d1

module _ {T G : Type 0} (out_taken : T → Option (List ℕ)) (out_faults : T → ℕ)
    (diag_taken : G → Option (List ℕ)) (diag_faults : G → ℕ) where
  -- what was packed was printed; or memory ran out for the line
  abbrev pub TellsPacked : Packed → ℕ → T → T → G → G → Type 0
  TellsPacked p status o0 o1 d0 d1 =
      Prints out_taken out_faults diag_taken diag_faults (packed_line p) status o0 o1 d0 d1
      ⊎ ((o1 ≡ o0)
      × Refuses pack_shown pack_status diag_taken diag_faults packs.OutOfMemory status d0 d1)

module _ {S D T G : Type 0} (left : S → Option (List ℕ)) (source_faults : S → ℕ)
    (files : D → Option Files) (disk_faults : D → ℕ) (out_taken : T → Option (List ℕ))
    (out_faults : T → ℕ) (diag_taken : G → Option (List ℕ)) (diag_faults : G → ℕ)
    (directory path : List ℕ) where
  -- a run's directory was packed, and what was packed was printed; or it wasn't, and the cause is
  -- the status and is reported
  abbrev pub RunsPack : Settings → ℕ → S → S → D → D → T → T → G → G → Type 0
  RunsPack settings status s0 s1 k0 k1 o0 o1 d0 d1 =
      ((p : Packed) × Packs left source_faults settings.session_limit s0 s1 (files k0) (files k1)
      directory path p
      × TellsPacked out_taken out_faults diag_taken diag_faults p status o0 o1 d0 d1)
      ⊎ ((e : PackError) × IsRefused left source_faults settings.session_limit s0 s1 (files k0)
      (files k1) directory path (disk_faults k0) (disk_faults k1) e
      × LeavesFiles (files k0) (files k1) path × (o1 ≡ o0)
      × Refuses pack_shown pack_status diag_taken diag_faults e status d0 d1)

module _ {S B F D T G : Type 0} (o : Objects S B F D T G) (status : ℕ) where
  -- the same of a command that reads a bundle, and refuses as such commands do; it leaves the
  -- bundle's sink as it was
  abbrev pub ShowsReading : (ℕ → List Entry → Result (List ℕ) ReadingError → Type 0) → Settings
      → Type 0
  ShowsReading prints settings =
      ShowsBundle reading_shown reading_status bundle_error o.source.left o.source.faults
      o.out.taken o.out.faults o.diag.taken o.diag.faults prints settings status o.s0 o.s1 o.o0 o.o1
      o.d0 o.d1
      × (o.b1 ≡ o.b0)

  -- a text about the program was printed
  abbrev pub Tells : List ℕ → Type 0
  Tells text =
      Prints o.out.taken o.out.faults o.diag.taken o.diag.faults text status o.o0 o.o1 o.d0 o.d1
      × (o.s1 ≡ o.s0) × (o.b1 ≡ o.b0)

  -- what the program does for the command that its words are; faulty words touch nothing,
  -- and are reported
  abbrev pub Runs : (List ℕ → ℕ) → Result Asked WordsError → Type 0
  Runs number (Ok (recording path settings)) =
      Records o.source.left o.source.faults o.bundle.taken o.bundle.faults o.out.taken o.out.faults
      o.diag.taken o.diag.faults number settings status o.s0 o.s1 o.b0 o.b1 o.o0 o.o1 o.d0 o.d1
  Runs number (Ok (tracing settings)) =
      ShowsReading (PrintsTrace settings.group_by settings.message_format) settings
  Runs number (Ok (replaying output settings)) = ShowsReading (PrintsReplay output) settings
  Runs number (Ok (reporting settings)) = ShowsReading PrintsReport settings
  Runs number (Ok (informing settings)) = ShowsReading PrintsInfo settings
  Runs number (Ok (slotting settings)) = ShowsReading PrintsSlots settings
  Runs number (Ok (rerunning settings)) = ShowsReading PrintsRerun settings
  Runs number (Ok (viewing output settings)) = ShowsReading (PrintsView output) settings
  Runs number (Ok (sampling n path settings)) =
      RecordsSample o.bundle.taken o.bundle.faults o.out.taken o.out.faults o.diag.taken
      o.diag.faults number settings (sample_session n) status o.b0 o.b1 o.o0 o.o1 o.d0 o.d1
      × (o.s1 ≡ o.s0)
  Runs number (Ok (upgrading path settings)) =
      RunsUpgrade o.source.left o.source.faults o.bundle.taken o.bundle.faults o.diag.taken
      o.diag.faults settings status o.s0 o.s1 o.b0 o.b1 o.d0 o.d1
      × (o.o1 ≡ o.o0)
  Runs number (Ok (salvaging path settings)) =
      RunsSalvage o.source.left o.source.faults o.bundle.taken o.bundle.faults o.out.taken
      o.out.faults o.diag.taken o.diag.faults settings status o.s0 o.s1 o.b0 o.b1 o.o0 o.o1 o.d0
      o.d1
  Runs number (Ok (living path settings)) =
      RunsLive o.source.left o.source.faults o.file.taken o.file.faults o.out.taken o.out.faults
      o.diag.taken o.diag.faults number settings status o.s0 o.s1 o.f0 o.f1 o.o0 o.o1 o.d0 o.d1
      × (o.b1 ≡ o.b0)
  Runs number (Ok (packing directory path settings)) =
      RunsPack o.source.left o.source.faults o.disk.files o.disk.faults o.out.taken o.out.faults
      o.diag.taken o.diag.faults directory path settings status o.s0 o.s1 o.k0 o.k1 o.o0 o.o1 o.d0
      o.d1
      × (o.b1 ≡ o.b0)
  Runs number (Ok help) = Tells USAGE.now
  Runs number (Ok version) = Tells versions_text
  Runs number (Err fault) =
      (o.s1 ≡ o.s0) × (o.b1 ≡ o.b0) × (o.o1 ≡ o.o0)
      × Refuses words_shown words_status o.diag.taken o.diag.faults fault status o.d0 o.d1
