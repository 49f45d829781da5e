-- The parts of a bundle within the limit are the components of what it is read as.
use Rattle.std.proofs.Common.{◌≡◌, ◌≤◌, ℕ, List, length, Result, Ok}
use Rattle.std.proofs.Common.{Err, refl, ap, ◌∙◌, if◌then◌else◌}
use Rattle.std.proofs.lemmas.Bool.{le-ltb}
use Rattle.rec_container.specs.Reading.{◌>>=◌}
use Rattle.rec_store.proofs.PartLaws.{parts_of_reading}
use Rattle.rec_store.specs.Entries.{bundle_entries, log_name, manifest_name}
use Rattle.rec_store.specs.Parts.{AreWithin}
use Rattle.rec_store.specs.Reading.{IsReading, RunRecord}
use Rattle.rec_portable.specs.Components.{AreComponents}
use Rattle.rec_portable.specs.declared.errors.PortableRecordingReadError.TheVariants.{FileTooLarge}
use Rattle.rec_portable.specs.declared.errors.PortableRecordingReadError.{
  PortableRecordingReadError,
}
use Rattle.rec_portable.specs.Judging.{content_judged, manifest_read, versions_checked, within}

pub within_limit : (limit : ℕ) (name content : List ℕ) → length content ≤ limit
    → within limit name content ≡ Ok content
within_limit limit name content short =
    let made : Result (List ℕ) PortableRecordingReadError = Ok content in
    ap (λ b. if b then Err (FileTooLarge name (length content) limit) else made)
    (le-ltb limit (length content) short)

pub are_components : (bytes : List ℕ) (limit : ℕ) (r : RunRecord) (reads : IsReading bytes r)
    → length reads.manifest ≤ limit → length reads.log ≤ limit → AreWithin reads.entries limit
    → AreComponents bytes limit r
are_components bytes limit r reads short_manifest short_log small =
    let parts = parts_of_reading reads.manifest reads.log reads.entries limit r reads.read small in
    record {
      entries = bundle_entries reads.manifest reads.log reads.store;
      spelled = reads.bundled;
      manifest = parts.manifest.manifest;
      opened =
          ap (λ found. found >>= content_judged)
          (within_limit limit manifest_name reads.manifest short_manifest)
          ∙ ap (λ read. manifest_read read >>= versions_checked) parts.manifest.read;
      format_version = parts.manifest.format_version;
      run = parts.manifest.run;
      text = reads.manifest;
      text_found = refl;
      log = reads.log;
      log_read = within_limit limit log_name reads.log short_log;
      store = reads.store;
      store_found = refl;
      stored = reads.entries;
      store_opened = reads.stored;
      parts = parts;
    }
