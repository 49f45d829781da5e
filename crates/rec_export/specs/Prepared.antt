-- What is exported of a session, before it is written.
use Rattle.std.specs.Option.{option_or}
use Rattle.std.specs.Prelude.{ℕ, ◌^◌, List, length, nat_lt, Option, Some, None, if◌then◌else◌}
use Rattle.rec_container.specs.Container.{spell}
use Rattle.rec_container.specs.Writing.{entry_named}
use Rattle.rec_store.specs.Entries.{bundle_entries, log_name, manifest_name}
use Rattle.rec_errors.specs.declared.export_error.RecordExportError.TheVariants.{CountOutOfRange}
use Rattle.rec_errors.specs.declared.export_error.RecordExportError.{RecordExportError}
use Rattle.rec_export.specs.declared.prepare.Prepared.{Prepared}
use Rattle.rec_export.specs.Sizes.{entry_refusal}

-- the bundle of these three contents
abbrev pub bundle_of_contents : List ℕ → List ℕ → List ℕ → List ℕ
bundle_of_contents manifest log store = spell (bundle_entries manifest log store)

-- the bundle of what was prepared
abbrev pub prepared_bundle : Prepared → List ℕ
prepared_bundle p = bundle_of_contents p.manifest.items p.log.bytes (spell p.store.entries)

-- why a bundle is refused, if it is: its length is no u64
abbrev pub length_refusal : List ℕ → Option RecordExportError
length_refusal bundle =
    if nat_lt (length bundle) (2 ^ 64) then None else Some (CountOutOfRange None)

-- why a bundle is refused, if it is, before the store's entries are judged: its length,
-- then the manifest, then the log
abbrev pub contents_refusal : ℕ → List ℕ → List ℕ → List ℕ → Option RecordExportError
contents_refusal limit manifest log store =
    option_or (length_refusal (bundle_of_contents manifest log store))
    (option_or (entry_refusal limit (entry_named manifest_name manifest))
    (entry_refusal limit (entry_named log_name log)))
