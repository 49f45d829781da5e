-- Outputs read back, and are writable.
use Rattle.std.proofs.Common.{arith}
use Rattle.std.specs.Prelude.{◌≡◌, ℕ, List, Some, refl, codes, Err, Ok, Result, [], ◌∷◌}
use Rattle.std.specs.Result.{result_ok}
use Rattle.hex.proofs.HexLemmas.{decode_of-encode_lower, decode_of-ok}
use Rattle.hex.specs.declared.error.FromHexError.{FromHexError}
use Rattle.hex.specs.Hex.{encode_lower, IsBytes, decode_of}
use Rattle.serde_json.specs.Find.{as_str}
use Rattle.rec_events.specs.declared.outputs.ZipStoreOutput.TheVariants as output
use Rattle.rec_events.specs.declared.outputs.ZipStoreOutput.{ZipStoreOutput}
use Rattle.rec_events.specs.declared.outputs.ZipStoreOutputDescription.TheVariants as outputs
use Rattle.rec_events.specs.declared.outputs.ZipStoreOutputDescription.{ZipStoreOutputDescription}
use Rattle.rec_forms.specs.GivesWellFormed.{Holds, GivesWellFormed}
use Rattle.rec_forms.specs.ListLaws.{maybe_back}
use Rattle.rec_forms.specs.Members.{get_member-members_of}
use Rattle.rec_forms.specs.NumberLaws.{u64_back, u64_well_formed}
use Rattle.rec_forms.specs.Numbers.{u64_form}
use Rattle.rec_forms.specs.OutputNameLaws.{
  file_name_back,
  file_name_writable,
  file_name_well_formed,
}
use Rattle.rec_forms.specs.OutputNames.{file_name_form}
use Rattle.rec_forms.specs.Outputs.{output_bytes_value, output_bytes_form}
use Rattle.rec_forms.specs.Outputs.{stored_output_value, stored_output_form, truncated_form}
use Rattle.rec_forms.specs.Outputs.{IsStoredOutput, stored_outputs_value, stored_outputs_form}
use Rattle.rec_forms.specs.Outputs.{split_form, IsStoredOutputs, combined_form, full_form}
use Rattle.rec_forms.specs.TextLaws.{IsText-encode_lower}
use Rattle.rec_forms.specs.WellFormedLaws.{anything, and_then_holds, map_holds, object_then}
use Rattle.rec_forms.specs.WellFormedLaws.{required_then, maybe_then, variant_well_formed}
use Rattle.rec_forms.specs.Writable.{IsWritable, struct_writable, tagged_writable, natural_writable}
use Rattle.rec_forms.specs.Writable.{string_writable, word_writable, optional_writable, weaker}

pub output_bytes_back : (bytes : List ℕ) → IsBytes bytes
    → output_bytes_form (output_bytes_value bytes) ≡ Some bytes
unfolding output_bytes_form
output_bytes_back bytes h = rw (decode_of-encode_lower bytes h)

pub output_bytes_writable : (bytes : List ℕ) → IsBytes bytes
    → IsWritable 0 (output_bytes_value bytes)
output_bytes_writable bytes h = string_writable (encode_lower bytes) (IsText-encode_lower bytes)

pub stored_output_back : (o : ZipStoreOutput) → IsStoredOutput o
    → stored_output_form (stored_output_value o) ≡ Some o
unfolding stored_output_form truncated_form
stored_output_back output.Empty h = refl
stored_output_back (output.Full name) h = rw (file_name_back name h)
stored_output_back (output.Truncated name size) h =
    simp (get_member-members_of, file_name_back name h.0, u64_back size h.1)

pub stored_output_writable : (o : ZipStoreOutput) → IsStoredOutput o
    → IsWritable 2 (stored_output_value o)
stored_output_writable output.Empty h = word_writable _ refl
stored_output_writable (output.Full name) h =
    tagged_writable (codes "full") _ refl (weaker 0 1 (omega arith) (file_name_writable name h))
stored_output_writable (output.Truncated name size) h =
    tagged_writable (codes "truncated") _ refl
    (struct_writable _ refl (file_name_writable name h.0, (natural_writable size h.1, tt)))

pub stored_outputs_back : (o : ZipStoreOutputDescription) → IsStoredOutputs o
    → stored_outputs_form (stored_outputs_value o) ≡ Some o
unfolding stored_outputs_form split_form
stored_outputs_back (outputs.Split out err) h =
    simp (
      get_member-members_of,
      maybe_back IsStoredOutput stored_output_value stored_output_form stored_output_back
          stored_output_writable out h.0,
      maybe_back IsStoredOutput stored_output_value stored_output_form stored_output_back
          stored_output_writable err h.1,
    )
stored_outputs_back (outputs.Combined o) h = rw (stored_output_back o h)

pub stored_outputs_writable : (o : ZipStoreOutputDescription) → IsStoredOutputs o
    → IsWritable 4 (stored_outputs_value o)
stored_outputs_writable (outputs.Split out err) h =
    tagged_writable (codes "split") _ refl (struct_writable _ refl (
      optional_writable stored_output_value stored_output_writable out h.0,
      (optional_writable stored_output_value stored_output_writable err h.1, tt),
    ))
stored_outputs_writable (outputs.Combined o) h =
    tagged_writable (codes "combined") _ refl
    (weaker 2 3 (omega arith) (stored_output_writable o h))

-- ---- what is read is well-formed

decoded : (s : List ℕ) (r : Result (List ℕ) FromHexError) → decode_of s ≡ r
    → Holds IsBytes (result_ok r)
decoded s (Ok bytes) e = record { is = (decode_of-ok s bytes e).3 }
decoded s (Err e) h = record { is = tt }

pub output_bytes_well_formed : GivesWellFormed IsBytes output_bytes_form
unfolding output_bytes_form
output_bytes_well_formed = record {
  each =
      λ d. and_then_holds (λ s. result_ok (decode_of s)) (as_str d) (anything (as_str d))
      (λ s _. decoded s (decode_of s) refl);
}

full_well_formed : GivesWellFormed IsStoredOutput full_form
full_well_formed = record {
  each =
      λ d. map_holds output.Full (file_name_form d) (file_name_well_formed.each d) (λ name is. is);
}

truncated_well_formed : GivesWellFormed IsStoredOutput truncated_form
unfolding truncated_form
truncated_well_formed = record {
  each = λ d.
      object_then d _ (λ ms.
      required_then file_name_form (codes "file-name") ms _ file_name_well_formed (λ name name_is.
      required_then u64_form (codes "original-size") ms _ u64_well_formed (λ size size_is.
      record { is = (name_is, size_is) })));
}

pub stored_output_well_formed : GivesWellFormed IsStoredOutput stored_output_form
unfolding stored_output_form
stored_output_well_formed =
    variant_well_formed IsStoredOutput ((codes "empty", output.Empty) ∷ [])
    ((codes "full", full_form) ∷ (codes "truncated", truncated_form) ∷ []) (tt, tt)
    (full_well_formed, (truncated_well_formed, tt))

split_well_formed : GivesWellFormed IsStoredOutputs split_form
unfolding split_form
split_well_formed = record {
  each = λ d.
      object_then d _ (λ ms.
      maybe_then stored_output_form (codes "stdout") ms _ stored_output_well_formed (λ out out_is.
      maybe_then stored_output_form (codes "stderr") ms _ stored_output_well_formed (λ err err_is.
      record { is = (out_is, err_is) })));
}

combined_well_formed : GivesWellFormed IsStoredOutputs combined_form
combined_well_formed = record {
  each =
      λ d. map_holds outputs.Combined (stored_output_form d) (stored_output_well_formed.each d)
      (λ o is. is);
}

pub stored_outputs_well_formed : GivesWellFormed IsStoredOutputs stored_outputs_form
unfolding stored_outputs_form
stored_outputs_well_formed =
    variant_well_formed IsStoredOutputs []
    ((codes "split", split_form) ∷ (codes "combined", combined_form) ∷ []) tt
    (split_well_formed, (combined_well_formed, tt))
