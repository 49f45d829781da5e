-- What is known of the metadata where none of it is refused.
use Rattle.std.proofs.Common.{◌≡◌, ℕ, Bool, true, false, List, Option, Some, None}
use Rattle.std.proofs.Common.{is_some, option_and_then, option_map, refl, ap, ◌∙◌}
use Rattle.std.specs.Option.{option_or}
use Rattle.std.specs.Str.{is_utf8}
use Rattle.serde_json.specs.Data.{Data}
use Rattle.rec_container.specs.Container.{Entry, content_of}
use Rattle.rec_events.specs.declared.recording.RecordOpts.{RecordOpts}
use Rattle.rec_events.specs.declared.recording.TestListSummary.{TestListSummary}
use Rattle.rec_forms.specs.Recording.{test_list_form, record_opts_form}
use Rattle.rec_forms.specs.Shape.{only}
use Rattle.rec_forms.specs.TextForm.{bytes_form}
use Rattle.rec_format.specs.declared.rerun.RerunInfo.{RerunInfo}
use Rattle.rec_format.specs.declared.scope.RecordedBuildScope.{RecordedBuildScope}
use Rattle.rec_format.specs.RerunForms.{rerun_info_form}
use Rattle.rec_format.specs.ScopeForms.{recorded_scope_form}
use Rattle.rec_store.specs.Entries.{build_scope_path, cargo_metadata_path}
use Rattle.rec_store.specs.Entries.{record_opts_path, rerun_info_path, test_list_path}
use Rattle.rec_store.specs.RunParts.{maybe_part, part, text_part}
use Rattle.rec_salvage.specs.declared.errors.SalvageError.{SalvageError}
use Rattle.rec_salvage.specs.Refusals.{content_refusal, prefix_refusal}
use Rattle.rec_salvage.specs.Refusals.{maybe_refusal, part_refusal, stands_for}

-- the parts that are read of entries
pub record AreParts (es : List Entry) : Type 0 where
  pub build_scope : RecordedBuildScope
  pub rerun_info : Option RerunInfo
  pub test_list : TestListSummary
  pub cargo_metadata : List ℕ
  pub record_opts : RecordOpts
  pub build_scope_read : part recorded_scope_form es build_scope_path ≡ Some build_scope
  pub rerun_info_read : maybe_part rerun_info_form (content_of es rerun_info_path) ≡ Some rerun_info
  pub test_list_read : part test_list_form es test_list_path ≡ Some test_list
  pub cargo_metadata_read : text_part es cargo_metadata_path ≡ Some cargo_metadata
  pub record_opts_read : part record_opts_form es record_opts_path ≡ Some record_opts

neither : (a b : Option SalvageError) → option_or a b ≡ None → (a ≡ None) × (b ≡ None)
neither None b h = (refl, h)
neither (Some e) b h = absurd cc

passes : (path : List ℕ) (b : Bool) → content_refusal path b ≡ None → b ≡ true
passes path true h = refl
passes path false h = absurd cc

some_of : {T : Type 0} (o : Option T) → is_some o ≡ true → (x : T) × (o ≡ Some x)
some_of None h = absurd cc
some_of (Some x) h = (x, refl)

module _ {T : Type 0} (form : Data → Option T) (path : List ℕ) where
  read_part : (o : Option (List ℕ)) → part_refusal path (stands_for form) o ≡ None
      → (x : T) × (option_and_then (bytes_form form) o ≡ Some x)
  read_part None h = absurd cc
  read_part (Some content) h =
      some_of (bytes_form form content) (passes path (stands_for form content) h)

  read_maybe : (o : Option (List ℕ)) → maybe_refusal path (stands_for form) o ≡ None
      → (x : Option T) × (maybe_part form o ≡ Some x)
  read_maybe None h = (None, refl)
  read_maybe (Some content) h =
      let read = some_of (bytes_form form content) (passes path (stands_for form content) h) in
      (Some read.0, ap (option_map Some) read.1)

read_text : (path : List ℕ) (o : Option (List ℕ)) → part_refusal path is_utf8 o ≡ None
    → (s : List ℕ) × (option_and_then (λ s. only (is_utf8 s) s) o ≡ Some s)
read_text path None h = absurd cc
read_text path (Some content) h =
    (content, ap (λ b. only b content) (passes path (is_utf8 content) h))

-- where no part is refused, all are read
pub parts_read : (es : List Entry) → prefix_refusal es ≡ None → AreParts es
parts_read es h =
    let first = neither (part_refusal build_scope_path (stands_for recorded_scope_form)
    (content_of es build_scope_path))
    _ h in
    let second = neither
    (maybe_refusal rerun_info_path (stands_for rerun_info_form) (content_of es rerun_info_path))
    _ first.1 in
    let third =
    neither (part_refusal test_list_path (stands_for test_list_form) (content_of es test_list_path))
    _ second.1 in
    let fourth = neither
    (part_refusal cargo_metadata_path is_utf8 (content_of es cargo_metadata_path)) _ third.1 in
    let scope =
    read_part recorded_scope_form build_scope_path (content_of es build_scope_path) first.0 in
    let rerun =
    read_maybe rerun_info_form rerun_info_path (content_of es rerun_info_path) second.0 in
    let list = read_part test_list_form test_list_path (content_of es test_list_path) third.0 in
    let metadata = read_text cargo_metadata_path (content_of es cargo_metadata_path) fourth.0 in
    let opts =
    read_part record_opts_form record_opts_path (content_of es record_opts_path) fourth.1 in
    record {
      build_scope = scope.0;
      rerun_info = rerun.0;
      test_list = list.0;
      cargo_metadata = metadata.0;
      record_opts = opts.0;
      build_scope_read = scope.1;
      rerun_info_read = rerun.1;
      test_list_read = list.1;
      cargo_metadata_read = metadata.1;
      record_opts_read = opts.1;
    }

-- and in entries that have the same under these paths
pub parts_same : (es fs : List Entry)
    → content_of es build_scope_path ≡ content_of fs build_scope_path
    → content_of es rerun_info_path ≡ content_of fs rerun_info_path
    → content_of es test_list_path ≡ content_of fs test_list_path
    → content_of es cargo_metadata_path ≡ content_of fs cargo_metadata_path
    → content_of es record_opts_path ≡ content_of fs record_opts_path → AreParts fs → AreParts es
parts_same es fs scope rerun list metadata opts parts = record {
  build_scope = parts.build_scope;
  rerun_info = parts.rerun_info;
  test_list = parts.test_list;
  cargo_metadata = parts.cargo_metadata;
  record_opts = parts.record_opts;
  build_scope_read =
      ap (option_and_then (bytes_form recorded_scope_form)) scope ∙ parts.build_scope_read;
  rerun_info_read = ap (maybe_part rerun_info_form) rerun ∙ parts.rerun_info_read;
  test_list_read = ap (option_and_then (bytes_form test_list_form)) list ∙ parts.test_list_read;
  cargo_metadata_read =
      ap (option_and_then (λ s. only (is_utf8 s) s)) metadata ∙ parts.cargo_metadata_read;
  record_opts_read =
      ap (option_and_then (bytes_form record_opts_form)) opts ∙ parts.record_opts_read;
}
