-- What a recording says of the whole run reads back, and is writable.
use Rattle.std.specs.Prelude.{◌≡◌, Some, refl, codes}
use Rattle.serde_json.specs.Data.{string}
use Rattle.rec_events.specs.declared.recording.NextestRunMode.TheVariants.{Test, Benchmark}
use Rattle.rec_events.specs.declared.recording.NextestRunMode.{NextestRunMode}
use Rattle.rec_events.specs.declared.recording.RecordOpts.{RecordOpts}
use Rattle.rec_events.specs.declared.recording.TestListSummary.{TestListSummary}
use Rattle.rec_events.specs.Names.{IsText, AreTexts}
use Rattle.rec_forms.specs.GivesWellFormed.{GivesWellFormed}
use Rattle.rec_forms.specs.ListLaws.{list_back}
use Rattle.rec_forms.specs.Lists.{list_value, list_form}
use Rattle.rec_forms.specs.MapLaws.{map_back, map_writable, map_well_formed}
use Rattle.rec_forms.specs.Maps.{map_form}
use Rattle.rec_forms.specs.Members.{get_member-members_of}
use Rattle.rec_forms.specs.NumberLaws.{text_back, text_well_formed}
use Rattle.rec_forms.specs.Recording.{run_mode_value, run_mode_form, record_opts_value}
use Rattle.rec_forms.specs.Recording.{record_opts_form, test_list_value, test_list_form, IsTestList}
use Rattle.rec_forms.specs.Shape.{text_of}
use Rattle.rec_forms.specs.WellFormedLaws.{object_then, required_then, list_well_formed}
use Rattle.rec_forms.specs.Writable.{IsWritable, struct_writable, string_writable}
use Rattle.rec_forms.specs.Writable.{word_writable, list_writable}

pub run_mode_back : (m : NextestRunMode) → run_mode_form (run_mode_value m) ≡ Some m
unfolding run_mode_form
run_mode_back Test = refl
run_mode_back Benchmark = refl

pub run_mode_writable : (m : NextestRunMode) → IsWritable 0 (run_mode_value m)
run_mode_writable Test = word_writable _ refl
run_mode_writable Benchmark = word_writable _ refl

pub record_opts_back : (o : RecordOpts) → record_opts_form (record_opts_value o) ≡ Some o
unfolding record_opts_form
record_opts_back o = simp (get_member-members_of, run_mode_back o.run_mode)

pub record_opts_writable : (o : RecordOpts) → IsWritable 1 (record_opts_value o)
record_opts_writable o = struct_writable _ refl (run_mode_writable o.run_mode, tt)

pub test_list_back : (t : TestListSummary) → IsTestList t
    → test_list_form (test_list_value t) ≡ Some t
unfolding test_list_form
test_list_back t h = simp (
  get_member-members_of,
  map_back AreTexts (list_value string) (list_form text_of)
      (list_back IsText string text_of text_back) _ h.suites,
)

pub test_list_writable : (t : TestListSummary) → IsTestList t → IsWritable 3 (test_list_value t)
test_list_writable t h =
    struct_writable _ refl
    (map_writable (list_value string) (list_writable string string_writable) t.suites h.suites, tt)

-- ---- what is read is well-formed

pub test_list_well_formed : GivesWellFormed IsTestList test_list_form
unfolding test_list_form
test_list_well_formed = record {
  each = λ d.
      object_then d _ (λ ms.
      required_then (map_form (list_form text_of)) (codes "suites") ms _
      (map_well_formed (list_form text_of) (list_well_formed text_of text_well_formed))
      (λ suites suites_is.
      record { is = record { suites = suites_is } }));
}
