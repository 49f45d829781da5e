-- That the texts of a head's parts are read as these.
use Rattle.std.specs.Prelude.{◌≡◌, IsTrue, IfSome, Some}
use Rattle.std.specs.Str.{is_utf8}
use Rattle.serde_json.specs.Written.{compact_text}
use Rattle.rec_forms.specs.Recording.{record_opts_value, record_opts_form}
use Rattle.rec_forms.specs.Recording.{test_list_value, test_list_form}
use Rattle.rec_forms.specs.TextForm.{bytes_form}
use Rattle.rec_format.specs.declared.head.SessionHead.{SessionHead}
use Rattle.rec_format.specs.RerunForms.{rerun_info_value, rerun_info_form}
use Rattle.rec_format.specs.ScopeForms.{recorded_scope_value, recorded_scope_form}

-- the texts are read as the parts, and cargo's metadata is UTF-8
pub record AreTextsRead (h : SessionHead) : Type 0 where
  pub build_scope : bytes_form recorded_scope_form
      (compact_text (recorded_scope_value h.build_scope))
      ≡ Some h.build_scope
  pub rerun_info : IfSome h.rerun_info
      (λ r. bytes_form rerun_info_form (compact_text (rerun_info_value r)) ≡ Some r)
  pub test_list : bytes_form test_list_form (compact_text (test_list_value h.test_list))
      ≡ Some h.test_list
  pub record_opts : bytes_form record_opts_form (compact_text (record_opts_value h.record_opts))
      ≡ Some h.record_opts
  pub cargo_metadata : IsTrue (is_utf8 h.cargo_metadata)
