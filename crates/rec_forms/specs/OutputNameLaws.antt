-- A kind of outputs and the name of an output's file read back, and are writable.
use Rattle.std.proofs.Common.{arith, sym, ◌∙◌}
use Rattle.std.specs.Int.{from_be_bytes, to_be_bytes, w64}
use Rattle.std.specs.Prelude.{◌≡◌, ℕ, ◌<◌, ◌^◌, List, take, drop, Some, Result, Ok, Err, refl}
use Rattle.std.specs.Str.{bytes_eq}
use Rattle.hex.proofs.HexLemmas.{decode_of-ok, decode_sized-ok, decode_sized-twice}
use Rattle.hex.specs.declared.error.FromHexError.{FromHexError}
use Rattle.hex.specs.Hex.{IsBytes, decode_sized, encode_lower}
use Rattle.serde_json.specs.Find.{as_str}
use Rattle.rec_events.specs.declared.output_names.OutputFileName.{OutputFileName}
use Rattle.rec_events.specs.declared.output_names.OutputKind.TheVariants.{Stdout, Stderr, Combined}
use Rattle.rec_events.specs.declared.output_names.OutputKind.{OutputKind}
use Rattle.rec_events.specs.Names.{IsText}
use Rattle.rec_events.specs.OutputNameLaws.{file_name_back as name_back}
use Rattle.rec_events.specs.OutputNames.{kind_of, kind_suffix, file_name_text, number_if_written}
use Rattle.rec_events.specs.OutputNames.{number_of, with_number, file_name_of}
use Rattle.rec_forms.specs.GivesWellFormed.{Holds, GivesWellFormed}
use Rattle.rec_forms.specs.OutputNames.{output_kind_value, output_kind_form}
use Rattle.rec_forms.specs.OutputNames.{file_name_value, file_name_form, IsFileName}
use Rattle.rec_forms.specs.TextLaws.{IsText-are_ascii, IsText-append, IsText-encode_lower}
use Rattle.rec_forms.specs.WellFormedLaws.{anything, and_then_holds, only_holds}
use Rattle.rec_forms.specs.Writable.{IsWritable, string_writable, word_writable}

pub output_kind_back : (x : OutputKind) → output_kind_form (output_kind_value x) ≡ Some x
unfolding output_kind_form
output_kind_back Stdout = refl
output_kind_back Stderr = refl
output_kind_back Combined = refl

pub output_kind_writable : (x : OutputKind) → IsWritable 0 (output_kind_value x)
output_kind_writable Stdout = word_writable _ refl
output_kind_writable Stderr = word_writable _ refl
output_kind_writable Combined = word_writable _ refl

pub file_name_back : (name : OutputFileName) → IsFileName name
    → file_name_form (file_name_value name) ≡ Some name
unfolding file_name_form
file_name_back name h = name_back name h.number

suffix_is_text : (kind : OutputKind) → IsText (kind_suffix kind)
suffix_is_text Stdout = IsText-are_ascii (kind_suffix Stdout) refl
suffix_is_text Stderr = IsText-are_ascii (kind_suffix Stderr) refl
suffix_is_text Combined = IsText-are_ascii (kind_suffix Combined) refl

pub file_name_writable : (name : OutputFileName) → IsFileName name
    → IsWritable 0 (file_name_value name)
file_name_writable name h =
    string_writable (file_name_text name) (IsText-append _ _
    (IsText-encode_lower (to_be_bytes w64 name.number)) (suffix_is_text name.kind))

-- ---- what is read is well-formed

-- eight bytes are a number of 64 bits
eight_bytes : (bytes : List ℕ) → IsBytes bytes → from_be_bytes w64 bytes < 2 ^ 64
eight_bytes bytes small =
    omega (arith, small 0, small 1, small 2, small 3, small 4, small 5, small 6, small 7)

number_if_well_formed : (digits : List ℕ) (r : Result (List ℕ) FromHexError)
    → decode_sized digits 8 ≡ r → Holds (λ n. n < 2 ^ 64) (number_if_written digits r)
number_if_well_formed digits (Ok bytes) e =
    let size = decode_sized-ok digits 8 bytes e in
    let parts = decode_of-ok digits bytes (sym (decode_sized-twice digits 8 size) ∙ e) in
    only_holds (bytes_eq (encode_lower bytes) digits) (from_be_bytes w64 bytes)
    (λ _. eight_bytes bytes parts.3)
number_if_well_formed digits (Err e) h = record { is = tt }

with_number_well_formed : (kind : OutputKind) (digits : List ℕ)
    → Holds IsFileName (with_number kind digits)
with_number_well_formed kind digits =
    and_then_holds {B = OutputFileName} (λ number. Some (record { number = number; kind = kind }))
    (number_of digits) (number_if_well_formed digits (decode_sized digits 8) refl)
    (λ number small. record { is = record { number = small } })

pub file_name_well_formed : GivesWellFormed IsFileName file_name_form
unfolding file_name_form
file_name_well_formed = record {
  each = λ d.
      and_then_holds file_name_of (as_str d) (anything (as_str d)) (λ s _.
      and_then_holds (λ kind. with_number kind (take 16 s)) (kind_of (drop 16 s))
      (anything (kind_of (drop 16 s))) (λ kind _. with_number_well_formed kind (take 16 s)));
}
