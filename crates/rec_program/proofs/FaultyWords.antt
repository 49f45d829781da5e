-- That a command ends with another status than faulty words.
use Rattle.std.proofs.Common.{◌≡◌, inl, inr, ℕ, ◌<◌, List}
use Rattle.std.proofs.Common.{true≢false, Result, Ok, Err, refl, sym, arith}
use Rattle.std.specs.Prelude.{◌↔◌, IsErr}
use Rattle.rec_container.specs.Container.{Entry}
use Rattle.rec_errors.specs.declared.reading_error.ReadingError.{ReadingError}
use Rattle.rec_errors.specs.declared.words_error.WordsError.{WordsError}
use Rattle.rec_reading.specs.Listing.{PrintsInfo, PrintsReplay, PrintsReport}
use Rattle.rec_reading.specs.Reruns.{PrintsRerun}
use Rattle.rec_reading.specs.Slots.{PrintsSlots}
use Rattle.rec_reading.specs.Views.{PrintsView}
use Rattle.rec_export.specs.declared.settings.Settings.{Settings}
use Rattle.rec_words.specs.declared.usage.TheConstants.{USAGE}
use Rattle.rec_words.specs.Usage.{versions_text}
use Rattle.rec_words.specs.Words.{Asked, recording, tracing, replaying}
use Rattle.rec_words.specs.Words.{reporting, informing, slotting, rerunning, viewing}
use Rattle.rec_words.specs.Words.{sampling, upgrading, salvaging, living, packing, help, version}
use Rattle.rec_faults.specs.DirectoryCommands.{live_status, pack_status}
use Rattle.rec_faults.specs.Status.{export_status, reading_status}
use Rattle.rec_faults.specs.WritingCommands.{upgrade_status}
use Rattle.rec_program.proofs.StatusesAbove.{export_above, live_above, pack_above, reading_above}
use Rattle.rec_program.proofs.WritingCommands.{refusal_above, upgrade_above}
use Rattle.rec_program.specs.BundleTraces.{PrintsTrace}
use Rattle.rec_program.specs.Counts.{counts_line, packed_line}
use Rattle.rec_program.specs.Objects.{Objects}
use Rattle.rec_program.specs.Running.{Prints, Runs, ShowsReading}
use Rattle.rec_program.specs.Salvaging.{refusal_status}

module _ {S B F D T G : Type 0} (o : Objects S B F D T G) (status : ℕ) where
  -- the status is another than 2
  above : (n : ℕ) → 2 < n → status ≡ n → status ≡ 2 → ⊥
  above n over same two = omega (arith, over, same, two)

  zeroed : status ≡ 0 → status ≡ 2 → ⊥
  zeroed zero two = omega (arith, zero, two)

  eleven : status ≡ 11 → status ≡ 2 → ⊥
  eleven is two = omega (arith, is, two)

  prints : (text : List ℕ)
      → Prints o.out.taken o.out.faults o.diag.taken o.diag.faults text status o.o0 o.o1 o.d0 o.d1
      → status ≡ 2 → ⊥
  prints text (inl p) = zeroed p.0
  prints text (inr p) = eleven p.0

  reads : (f : ℕ → List Entry → Result (List ℕ) ReadingError → Type 0) (settings : Settings)
      → ShowsReading o status f settings → status ≡ 2 → ⊥
  reads f settings (inl r, kept) = prints r.0 r.2
  reads f settings (inr r, kept) = above (reading_status r.0) (reading_above r.0) r.3.0

  asks : (number : List ℕ → ℕ) (asked : Asked) → Runs o status number (Ok asked) → status ≡ 2 → ⊥
  asks number (recording path settings) (inl r) = zeroed r.0
  asks number (recording path settings) (inr r) =
      above (export_status r.0) (export_above r.0) r.2.0
  asks number (tracing settings) r =
      reads (PrintsTrace settings.group_by settings.message_format) settings r
  asks number (replaying output settings) r = reads (PrintsReplay output) settings r
  asks number (reporting settings) r = reads PrintsReport settings r
  asks number (informing settings) r = reads PrintsInfo settings r
  asks number (slotting settings) r = reads PrintsSlots settings r
  asks number (rerunning settings) r = reads PrintsRerun settings r
  asks number (viewing output settings) r = reads (PrintsView output) settings r
  asks number (sampling n path settings) (inl r, kept) = prints r.0 r.2
  asks number (sampling n path settings) (inr r, kept) =
      above (export_status r.0) (export_above r.0) r.3.0
  asks number (upgrading path settings) (inl r, kept) = zeroed r.0
  asks number (upgrading path settings) (inr r, kept) =
      above (upgrade_status r.0) (upgrade_above r.0) r.2.0
  asks number (salvaging path settings) (inl (s, shows, inl w)) =
      prints (counts_line s.events s.outputs) w.1
  asks number (salvaging path settings) (inl (s, shows, inr f)) = above 10 (omega arith) f.3.0
  asks number (salvaging path settings) (inr r) =
      above (refusal_status r.0) (refusal_above r.0) r.4.0
  asks number (living path settings) ((Ok count, lives, told), kept) = zeroed told.0
  asks number (living path settings) ((Err e, lives, told), kept) =
      above (live_status e) (live_above e) told.0
  asks number (packing directory path settings) (inl (p, packs, inl t), kept) =
      prints (packed_line p) t
  asks number (packing directory path settings) (inl (p, packs, inr t), kept) =
      above 70 (omega arith) t.1.0
  asks number (packing directory path settings) (inr r, kept) =
      above (pack_status r.0) (pack_above r.0) r.4.0
  asks number help r = prints USAGE.now r.0
  asks number version r = prints versions_text r.0

  -- status 2 comes exactly for faulty words
  pub two_is_faulty : (number : List ℕ → ℕ) (words : Result Asked WordsError)
      → Runs o status number words → (status ≡ 2) ↔ IsErr words
  two_is_faulty number (Err fault) r = (λ two. refl, λ err. r.3.0)
  two_is_faulty number (Ok asked) r =
      (λ two. absurd (asks number asked r two), λ err. absurd (true≢false (sym err)))
