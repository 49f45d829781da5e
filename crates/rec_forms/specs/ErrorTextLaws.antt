-- What is said of errors reads back, and is writable.
use Rattle.std.specs.Prelude.{◌≡◌, Some, refl, codes}
use Rattle.rec_events.specs.declared.results.ErrorSummary.{ErrorSummary}
use Rattle.rec_events.specs.declared.results.OutputErrorSlice.{OutputErrorSlice}
use Rattle.rec_forms.specs.ErrorTexts.{error_summary_value, error_summary_form, IsErrorSummary}
use Rattle.rec_forms.specs.ErrorTexts.{error_slice_value, error_slice_form, IsErrorSlice}
use Rattle.rec_forms.specs.GivesWellFormed.{GivesWellFormed}
use Rattle.rec_forms.specs.Members.{get_member-members_of}
use Rattle.rec_forms.specs.NumberLaws.{u64_back, text_back, text_well_formed, u64_well_formed}
use Rattle.rec_forms.specs.Numbers.{u64_form}
use Rattle.rec_forms.specs.Shape.{text_of}
use Rattle.rec_forms.specs.WellFormedLaws.{object_then, required_then}
use Rattle.rec_forms.specs.Writable.{IsWritable, struct_writable, string_writable, natural_writable}

pub error_summary_back : (s : ErrorSummary) → IsErrorSummary s
    → error_summary_form (error_summary_value s) ≡ Some s
unfolding error_summary_form
error_summary_back s h =
    simp (get_member-members_of, text_back _ h.short_message, text_back _ h.description)

pub error_summary_writable : (s : ErrorSummary) → IsErrorSummary s
    → IsWritable 1 (error_summary_value s)
error_summary_writable s h = struct_writable _ refl (
  string_writable s.short_message h.short_message,
  (string_writable s.description h.description, tt),
)

pub error_slice_back : (s : OutputErrorSlice) → IsErrorSlice s
    → error_slice_form (error_slice_value s) ≡ Some s
unfolding error_slice_form
error_slice_back s h = simp (get_member-members_of, text_back _ h.slice, u64_back _ h.start)

pub error_slice_writable : (s : OutputErrorSlice) → IsErrorSlice s
    → IsWritable 1 (error_slice_value s)
error_slice_writable s h =
    struct_writable _ refl (string_writable s.slice h.slice, (natural_writable s.start h.start, tt))

-- ---- what is read is well-formed

pub error_summary_well_formed : GivesWellFormed IsErrorSummary error_summary_form
unfolding error_summary_form
error_summary_well_formed = record {
  each = λ d.
      object_then d _ (λ ms.
      required_then text_of (codes "short-message") ms _ text_well_formed
      (λ short_message short_message_is.
      required_then text_of (codes "description") ms _ text_well_formed
      (λ description description_is.
      record { is = record { short_message = short_message_is; description = description_is } })));
}

pub error_slice_well_formed : GivesWellFormed IsErrorSlice error_slice_form
unfolding error_slice_form
error_slice_well_formed = record {
  each = λ d.
      object_then d _ (λ ms.
      required_then text_of (codes "slice") ms _ text_well_formed (λ slice slice_is.
      required_then u64_form (codes "start") ms _ u64_well_formed (λ start start_is.
      record { is = record { slice = slice_is; start = start_is } })));
}
