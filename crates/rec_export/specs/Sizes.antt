-- Why entries are refused that are longer than a reader takes.
use Rattle.std.specs.Prelude.{◌≡◌, List, ℕ, Option, None, option_map, Result, Ok, Err, Some, ◌⊎◌}
use Rattle.rec_container.specs.Container.{Entry}
use Rattle.rec_store.specs.declared.sizes_judged.TooLarge.{TooLarge}
use Rattle.rec_store.specs.SizesJudged.{first_too_large, too_large}
use Rattle.rec_errors.specs.declared.export_error.RecordExportError.TheVariants.{
  FileTooLarge,
  OutOfMemory,
}
use Rattle.rec_errors.specs.declared.export_error.RecordExportError.{RecordExportError}

abbrev pub size_fault : TooLarge → RecordExportError
size_fault t = FileTooLarge t.file_name t.size t.limit

-- why an entry is refused, if it is: it is longer than the limit
abbrev pub entry_refusal : ℕ → Entry → Option RecordExportError
entry_refusal limit e = option_map size_fault (too_large limit e)

-- the first refusal among entries
abbrev pub entries_refusal : ℕ → List Entry → Option RecordExportError
entries_refusal limit es = option_map size_fault (first_too_large limit es)

-- a refusal is answered, exactly where there is one; or memory runs out
abbrev pub AnswersRefusal : {T : Type 0} → Result T RecordExportError → Option RecordExportError
    → Type 0
AnswersRefusal (Ok x) refusal = refusal ≡ None
AnswersRefusal (Err e) refusal = (e ≡ OutOfMemory) ⊎ (refusal ≡ Some e)
