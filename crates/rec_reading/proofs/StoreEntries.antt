-- The entries of a bundle's store.
use Rattle.std.proofs.Common.{◌≡◌, ℕ, List, Option, None, Some, Ok, Err, ap}
use Rattle.rec_container.specs.Container.{Entry, ParsedContainer, content_of}
use Rattle.rec_store.specs.Entries.{store_name}
use Rattle.rec_portable.specs.declared.errors.PortableRecordingReadError.{
  PortableRecordingReadError,
}
use Rattle.rec_errors.specs.ReadingErrors.{bundle_error}
use Rattle.rec_reading.proofs.Entries.{entries_of_container}
use Rattle.rec_reading.proofs.Opened.{of_bundle-refused, store_refused}
use Rattle.rec_reading.specs.RunParts.{OpensEntries, OpensStored, of_bundle}
use Rattle.rec_reading.specs.Stores.{archive_read, store_found, store_part}

stored : (found : Option (List ℕ)) (c : ParsedContainer) → OpensStored found (Ok c)
    → of_bundle (store_found found) ≡ Ok c.entries
stored None c h = absurd h
stored (Some bytes) c h =
    ap (λ r. of_bundle (archive_read r)) (entries_of_container bytes c.entries h)

module _ (es : List Entry) where
  pub store-read : (c : ParsedContainer) → OpensStored (content_of es store_name) (Ok c)
      → OpensEntries (of_bundle (store_part es)) (Ok c)
  store-read c h = stored (content_of es store_name) c h

  pub store-unread : (e : PortableRecordingReadError)
      → OpensStored (content_of es store_name) (Err e)
      → OpensEntries (of_bundle (store_part es)) (Err (bundle_error e))
  store-unread e h =
      of_bundle-refused (store_part es) e (store_refused (content_of es store_name) e h)
