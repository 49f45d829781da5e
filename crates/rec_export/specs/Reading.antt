-- Why a session isn't read from its source.
use Rattle.std.specs.Prelude.{ℕ, List, Option}
use Rattle.rec_container.specs.declared.within.ReadError.TheVariants as read
use Rattle.rec_container.specs.Within as within
use Rattle.rec_errors.specs.declared.export_error.RecordExportError.TheVariants.{
  SourceFault,
  SessionTooLarge,
  OutOfMemory,
}
use Rattle.rec_errors.specs.declared.export_error.RecordExportError.{RecordExportError}

module _ {S : Type 0} (left : S → Option (List ℕ)) (faults : S → ℕ) where
  -- the source wasn't read to its end, and why; where memory ran out, now or later, it gave at most
  -- one byte more than the limit, without a fault
  abbrev pub Unread : ℕ → S → S → RecordExportError → Type 0
  Unread limit old new SourceFault = within.Unread left faults limit old new read.SourceFault
  Unread limit old new (SessionTooLarge most) =
      within.Unread left faults limit old new (read.TooLarge most)
  Unread limit old new OutOfMemory = within.Unread left faults limit old new read.OutOfMemory
  Unread limit old new e = ⊥
