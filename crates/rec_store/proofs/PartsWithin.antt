-- The parts of a store whose entries are within the limit.
use Rattle.std.proofs.Common.{◌≡◌, ◌≤◌, ℕ, List, length, Option, Some, None, option_map}
use Rattle.std.proofs.Common.{option_and_then, Ok, Err, refl, sym, ap, ◌∙◌, if◌then◌else◌}
use Rattle.std.proofs.lemmas.Bool.{le-ltb}
use Rattle.std.specs.Str.{is_utf8}
use Rattle.serde_json.specs.Data.{Data}
use Rattle.rec_container.specs.Container.{Entry, content_of}
use Rattle.rec_container.specs.Reading.{◌>>=◌}
use Rattle.rec_forms.specs.Shape.{only}
use Rattle.rec_forms.specs.TextForm.{bytes_form}
use Rattle.rec_format.specs.declared.rerun.RerunInfo.{RerunInfo}
use Rattle.rec_format.specs.Paths.{dict_of_name}
use Rattle.rec_format.specs.RerunForms.{rerun_info_form}
use Rattle.rec_store.proofs.PartContents.{found_content}
use Rattle.rec_store.proofs.PartOutputs.{IsOutput}
use Rattle.rec_store.specs.declared.read_error.RecordReadError.TheVariants.{
  FileTooLarge,
  NotUtf8,
  DeserializeMetadata,
  OutOfMemory,
}
use Rattle.rec_store.specs.Entries.{rerun_info_path}
use Rattle.rec_store.specs.Parts.{AreWithin, content_within, found_within, entry_part}
use Rattle.rec_store.specs.Parts.{or_refused, item_of, metadata_part, utf8_of, utf8_part}
use Rattle.rec_store.specs.Parts.{some_info, found_rerun_info, of_kind, path_of_output, IsReadAs}
use Rattle.rec_store.specs.RunParts.{part, maybe_part, text_part}

-- ---- options, taken apart

pub then_some : {A B : Type 0} (o : Option A) (f : A → Option B) (y : B)
    → option_and_then f o ≡ Some y → (x : A) × (o ≡ Some x) × (f x ≡ Some y)
then_some None f y h = absurd cc
then_some (Some x) f y h = (x, refl, h)

-- ---- a part within the limit

module _ (es : List Entry) (limit : ℕ) (within : AreWithin es limit) where
  content_read : (path content : List ℕ) → length content ≤ limit
      → content_within path limit content ≡ Ok content
  content_read path content short =
      ap (λ b. if b then Err (FileTooLarge path (length content) limit) else Ok content)
      (le-ltb limit (length content) short)

  short_content : (path content : List ℕ) → content_of es path ≡ Some content
      → length content ≤ limit
  short_content path content h = found_content (λ c. length c ≤ limit) es path content within h

  entry_read : (path content : List ℕ) → content_of es path ≡ Some content
      → entry_part es path limit ≡ Ok content
  entry_read path content h =
      ap (found_within path limit) h ∙ content_read path content (short_content path content h)

  pub metadata_read : {T : Type 0} (form : Data → Option T) (path : List ℕ) (x : T)
      → part form es path ≡ Some x → metadata_part form path es limit ≡ Ok x
  metadata_read form path x h =
      let found = then_some (content_of es path) (bytes_form form) x h in
      ap (λ r. r >>= item_of form path) (entry_read path found.0 found.1)
      ∙ ap (or_refused (DeserializeMetadata path)) found.2

  pub text_read : (path text : List ℕ) → text_part es path ≡ Some text
      → utf8_part path es limit ≡ Ok text
  text_read path text h =
      let found = then_some (content_of es path) (λ s. only (is_utf8 s) s) text h in
      ap (λ r. r >>= utf8_of path) (entry_read path found.0 found.1)
      ∙ ap (or_refused (NotUtf8 path)) found.2

  pub rerun_read : (found : Option (List ℕ)) (info : Option RerunInfo)
      → content_of es rerun_info_path ≡ found → maybe_part rerun_info_form found ≡ Some info
      → found_rerun_info limit found ≡ Ok info
  rerun_read None info is h = ap (or_refused OutOfMemory) h
  rerun_read (Some content) info is h =
      ap (λ r. (r >>= item_of rerun_info_form rerun_info_path) >>= some_info)
      (content_read rerun_info_path content (short_content rerun_info_path content is))
      ∙ by (bytes_form rerun_info_form content) h
    where
      by : (o : Option RerunInfo) → option_map Some o ≡ Some info
          → (or_refused (DeserializeMetadata rerun_info_path) o >>= some_info) ≡ Ok info
      by None e = absurd cc
      by (Some x) e = ap (or_refused OutOfMemory) e

  pub output_read : (path content : List ℕ) → IsOutput es path content
      → IsReadAs es limit path content
  output_read path content is =
      let found : content_of es (path_of_output is.name) ≡ Some content =
      ap (content_of es) (sym is.named) ∙ is.found in (
        is.name,
        is.named,
        ap (λ r. r >>= of_kind is.name (dict_of_name is.name))
            (entry_read (path_of_output is.name) content found)
            ∙ is.kind,
      )
