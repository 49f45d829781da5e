-- The values and forms of outputs: of the bytes of one, and of those in a store.
use Rattle.std.specs.Prelude.{ℕ, ◌^◌, ◌<◌, IfSome, List, [], ◌∷◌, Option}
use Rattle.std.specs.Prelude.{Some, option_map, option_and_then, codes}
use Rattle.std.specs.Result.{result_ok}
use Rattle.hex.specs.Hex.{encode_lower, decode_of}
use Rattle.serde_json.specs.Data.{Data, string}
use Rattle.serde_json.specs.Find.{as_object, as_str}
use Rattle.rec_events.specs.declared.outputs.ZipStoreOutput.TheVariants as output
use Rattle.rec_events.specs.declared.outputs.ZipStoreOutput.{ZipStoreOutput}
use Rattle.rec_events.specs.declared.outputs.ZipStoreOutputDescription.TheVariants as outputs
use Rattle.rec_events.specs.declared.outputs.ZipStoreOutputDescription.{ZipStoreOutputDescription}
use Rattle.rec_forms.specs.Numbers.{u64_form}
use Rattle.rec_forms.specs.OutputNames.{file_name_value, file_name_form, IsFileName}
use Rattle.rec_forms.specs.Shape.{◌>>=◌, natural, field, optional, struct}
use Rattle.rec_forms.specs.Shape.{required, maybe, tagged, variant}

-- ChildSingleOutput: two hexadecimal digits a byte, read in either case
abbrev pub output_bytes_value : List ℕ → Data
output_bytes_value bytes = string (encode_lower bytes)

unfoldable pub output_bytes_form : Data → Option (List ℕ)
output_bytes_form d = option_and_then (λ s. result_ok (decode_of s)) (as_str d)

-- ZipStoreOutput
abbrev pub stored_output_value : ZipStoreOutput → Data
stored_output_value output.Empty = string (codes "empty")
stored_output_value (output.Full name) = tagged (codes "full") (file_name_value name)
stored_output_value (output.Truncated name size) =
    tagged (codes "truncated") (struct (field (codes "file-name") (file_name_value name)
    ∷ field (codes "original-size") (natural size) ∷ []))

abbrev pub full_form : Data → Option ZipStoreOutput
full_form d = option_map output.Full (file_name_form d)

unfoldable pub truncated_form : Data → Option ZipStoreOutput
truncated_form d = do
  ms ← as_object d
  name ← required file_name_form (codes "file-name") ms
  size ← required u64_form (codes "original-size") ms
  Some (output.Truncated name size)

unfoldable pub stored_output_form : Data → Option ZipStoreOutput
stored_output_form =
    variant ((codes "empty", output.Empty) ∷ [])
    ((codes "full", full_form) ∷ (codes "truncated", truncated_form) ∷ [])

abbrev pub IsStoredOutput : ZipStoreOutput → Type 0
IsStoredOutput output.Empty = Unit {0}
IsStoredOutput (output.Full name) = IsFileName name
IsStoredOutput (output.Truncated name size) = IsFileName name × (size < 2 ^ 64)

-- ZipStoreOutputDescription
abbrev pub stored_outputs_value : ZipStoreOutputDescription → Data
stored_outputs_value (outputs.Split out err) =
    tagged (codes "split") (struct (optional (codes "stdout") stored_output_value out
    ∷ optional (codes "stderr") stored_output_value err ∷ []))
stored_outputs_value (outputs.Combined o) = tagged (codes "combined") (stored_output_value o)

unfoldable pub split_form : Data → Option ZipStoreOutputDescription
split_form d = do
  ms ← as_object d
  out ← maybe stored_output_form (codes "stdout") ms
  err ← maybe stored_output_form (codes "stderr") ms
  Some (outputs.Split out err)

abbrev pub combined_form : Data → Option ZipStoreOutputDescription
combined_form d = option_map outputs.Combined (stored_output_form d)

unfoldable pub stored_outputs_form : Data → Option ZipStoreOutputDescription
stored_outputs_form =
    variant [] ((codes "split", split_form) ∷ (codes "combined", combined_form) ∷ [])

abbrev pub IsStoredOutputs : ZipStoreOutputDescription → Type 0
IsStoredOutputs (outputs.Split out err) = IfSome out IsStoredOutput × IfSome err IsStoredOutput
IsStoredOutputs (outputs.Combined o) = IsStoredOutput o
