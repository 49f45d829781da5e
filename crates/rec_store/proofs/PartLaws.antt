-- The parts of a manifest, a log and a store are the components of what these are read as.
use Rattle.std.proofs.Common.{◌≡◌, ℕ, List, Some, Ok, ap, ◌∙◌, refl}
use Rattle.rec_container.specs.Container.{Entry, content_of}
use Rattle.rec_forms.specs.Recording.{test_list_form, record_opts_form}
use Rattle.rec_format.specs.ScopeForms.{recorded_scope_form}
use Rattle.rec_codec.proofs.LineReadings.{log_events-whole}
use Rattle.rec_codec.specs.Lines.{lines}
use Rattle.rec_store.proofs.PartOutputs.{output_of_reading}
use Rattle.rec_store.proofs.PartsOf.{parts_of_record, read_from}
use Rattle.rec_store.proofs.PartsWithin.{metadata_read, text_read, rerun_read, output_read}
use Rattle.rec_store.specs.Entries.{build_scope_path, cargo_metadata_path}
use Rattle.rec_store.specs.Entries.{record_opts_path, rerun_info_path, test_list_path}
use Rattle.rec_store.specs.Parts.{ArePartsOf, AreWithin}
use Rattle.rec_store.specs.Reading.{RunRecord, record_of}

pub parts_of_reading : (text log : List ℕ) (es : List Entry) (limit : ℕ) (r : RunRecord)
    → record_of text log es ≡ Some r → AreWithin es limit → ArePartsOf text log es limit r
parts_of_reading text log es limit r h within =
    let made = parts_of_record text log es r h in
    let p = made.0 in
    let same = made.2 in
    let from = read_from text log es p made.1 in
    let logged = (log_events-whole 1 (lines log) p.events).0 from.events in
    record {
      manifest = record {
        manifest = from.manifest;
        read = from.is_manifest;
        format_version = from.format_version ∙ ap (λ (x : RunRecord). x.format_version) same;
        run = from.run ∙ ap (λ (x : RunRecord). x.run) same;
      };
      log = record {
        events = p.events;
        given = logged.0;
        whole = logged.1;
        resolved = ap (λ (x : RunRecord). x.events) same;
      };
      cargo_metadata =
          text_read es limit within cargo_metadata_path p.cargo_metadata from.cargo_metadata
          ∙ ap (λ (x : RunRecord). Ok x.cargo_metadata) same;
      test_list =
          metadata_read es limit within test_list_form test_list_path p.test_list from.test_list
          ∙ ap (λ (x : RunRecord). Ok x.test_list) same;
      record_opts =
          metadata_read es limit within record_opts_form record_opts_path p.record_opts
          from.record_opts
          ∙ ap (λ (x : RunRecord). Ok x.record_opts) same;
      build_scope =
          metadata_read es limit within recorded_scope_form build_scope_path p.build_scope
          from.build_scope
          ∙ ap (λ (x : RunRecord). Ok x.build_scope) same;
      rerun_info =
          rerun_read es limit within (content_of es rerun_info_path)
          p.rerun_info refl from.rerun_info
          ∙ ap (λ (x : RunRecord). Ok x.rerun_info) same;
      outputs = λ path content there.
          output_read es limit within path content
          (output_of_reading p.events es p.outputs from.outputs path content
          (ap (λ (x : RunRecord). content_of x.outputs path) same ∙ there));
    }
