-- What the parts of a run were read from, one by one.
use Rattle.std.proofs.Common.{◌≡◌, ℕ, List, Option, Some, None, option_map, refl, sym, ap, ◌∙◌}
use Rattle.rec_container.specs.Container.{Entry, content_of}
use Rattle.rec_forms.specs.Recording.{test_list_form, record_opts_form}
use Rattle.rec_forms.specs.Shape.{◌>>=◌}
use Rattle.rec_forms.specs.TextForm.{bytes_form}
use Rattle.rec_format.specs.declared.manifest.PortableManifest.{PortableManifest}
use Rattle.rec_format.specs.RerunForms.{rerun_info_form}
use Rattle.rec_format.specs.RunForms.{manifest_form}
use Rattle.rec_format.specs.Runs.{info_of}
use Rattle.rec_format.specs.ScopeForms.{recorded_scope_form}
use Rattle.rec_codec.specs.Event.{RecordedEvent, log_events}
use Rattle.rec_codec.specs.Lines.{lines}
use Rattle.rec_store.specs.Entries.{build_scope_path, cargo_metadata_path}
use Rattle.rec_store.specs.Entries.{record_opts_path, rerun_info_path, test_list_path}
use Rattle.rec_store.specs.Reading.{RunRecord, record_of, record_of_parts}
use Rattle.rec_store.specs.RunParts.{RunParts, maybe_part, outputs_of, part, parts_of, text_part}

-- a chain has a value only where its first option has one
first_some : {A B : Type 0} (o : Option A) (f : A → Option B) (y : B) → (o >>= f) ≡ Some y
    → (x : A) × (o ≡ Some x) × (f x ≡ Some y)
first_some None f y h = absurd cc
first_some (Some x) f y h = (x, refl, h)

pub the_same : {A : Type 0} (x y : A) → Some x ≡ Some y → x ≡ y
the_same x y h = cc

-- the texts, and the entries, that the parts were read from
pub record AreReadFrom (text log : List ℕ) (es : List Entry) (p : RunParts) : Type 0 where
  pub manifest : PortableManifest
  pub is_manifest : bytes_form manifest_form text ≡ Some manifest
  pub format_version : manifest.format_version ≡ p.format_version
  pub run : info_of manifest.run ≡ p.run
  pub events : log_events (lines log) ≡ Some p.events
  pub cargo_metadata : text_part es cargo_metadata_path ≡ Some p.cargo_metadata
  pub test_list : part test_list_form es test_list_path ≡ Some p.test_list
  pub record_opts : part record_opts_form es record_opts_path ≡ Some p.record_opts
  pub build_scope : part recorded_scope_form es build_scope_path ≡ Some p.build_scope
  pub rerun_info : maybe_part rerun_info_form (content_of es rerun_info_path) ≡ Some p.rerun_info
  pub outputs : outputs_of p.events es ≡ Some p.outputs

pub read_from : (text log : List ℕ) (es : List Entry) (p : RunParts) → parts_of text log es ≡ Some p
    → AreReadFrom text log es p
read_from text log es p h =
    let manifest = first_some (bytes_form manifest_form text) _ p h in
    let events = first_some (log_events (lines log)) _ p manifest.2 in
    let metadata = first_some (text_part es cargo_metadata_path) _ p events.2 in
    let list = first_some (part test_list_form es test_list_path) _ p metadata.2 in
    let opts = first_some (part record_opts_form es record_opts_path) _ p list.2 in
    let scope = first_some (part recorded_scope_form es build_scope_path) _ p opts.2 in
    let rerun =
    first_some (maybe_part rerun_info_form (content_of es rerun_info_path)) _ p scope.2 in
    let outputs = first_some (outputs_of events.0 es) _ p rerun.2 in
    let made = the_same _ p outputs.2 in
    record {
      manifest = manifest.0;
      is_manifest = manifest.1;
      format_version = ap (λ (x : RunParts). x.format_version) made;
      run = ap (λ (x : RunParts). x.run) made;
      events = events.1 ∙ ap (λ (x : RunParts). Some x.events) made;
      cargo_metadata = metadata.1 ∙ ap (λ (x : RunParts). Some x.cargo_metadata) made;
      test_list = list.1 ∙ ap (λ (x : RunParts). Some x.test_list) made;
      record_opts = opts.1 ∙ ap (λ (x : RunParts). Some x.record_opts) made;
      build_scope = scope.1 ∙ ap (λ (x : RunParts). Some x.build_scope) made;
      rerun_info = rerun.1 ∙ ap (λ (x : RunParts). Some x.rerun_info) made;
      outputs =
          ap (λ (l : List RecordedEvent). outputs_of l es)
          (sym (ap (λ (x : RunParts). x.events) made))
          ∙ outputs.1 ∙ ap (λ (x : RunParts). Some x.outputs) made;
    }

-- what a record was made of
pub parts_of_record : (text log : List ℕ) (es : List Entry) (r : RunRecord)
    → record_of text log es ≡ Some r
    → (p : RunParts) × (parts_of text log es ≡ Some p) × (record_of_parts es p ≡ r)
parts_of_record text log es r h = by (parts_of text log es) h
  where
    by : (o : Option RunParts) → option_map (record_of_parts es) o ≡ Some r
        → (p : RunParts) × (o ≡ Some p) × (record_of_parts es p ≡ r)
    by None h = absurd cc
    by (Some p) h = (p, refl, the_same (record_of_parts es p) r h)
