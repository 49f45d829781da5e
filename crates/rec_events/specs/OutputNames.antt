-- The names under which outputs are stored.
use Rattle.std.specs.Int.{w64, to_be_bytes, from_be_bytes}
use Rattle.std.specs.Prelude.{ℕ, List, ◌++◌, take, drop, Option, Some, None, Result}
use Rattle.std.specs.Prelude.{Ok, Err, option_and_then, if◌then◌else◌, codes}
use Rattle.std.specs.Str.{bytes_eq}
use Rattle.hex.specs.declared.error.FromHexError.{FromHexError}
use Rattle.hex.specs.Hex.{encode_lower, decode_sized}
use Rattle.rec_events.specs.declared.output_names.OutputFileName.{OutputFileName}
use Rattle.rec_events.specs.declared.output_names.OutputKind.TheVariants.{Stdout, Stderr, Combined}
use Rattle.rec_events.specs.declared.output_names.OutputKind.{OutputKind}

abbrev pub kind_suffix : OutputKind → List ℕ
kind_suffix Stdout = codes "-stdout"
kind_suffix Stderr = codes "-stderr"
kind_suffix Combined = codes "-combined"

-- the digits of the number's eight bytes, the highest byte first, and the kind
abbrev pub file_name_text : OutputFileName → List ℕ
file_name_text name = encode_lower (to_be_bytes w64 name.number) ++ kind_suffix name.kind

-- the kind with this suffix
abbrev pub kind_of : List ℕ → Option OutputKind
kind_of s =
    if bytes_eq s (codes "-stdout") then Some Stdout
    else if bytes_eq s (codes "-stderr") then Some Stderr
    else if bytes_eq s (codes "-combined") then Some Combined
    else None

-- the number of eight bytes, if these digits are how they are written
abbrev pub number_if_written : List ℕ → Result (List ℕ) FromHexError → Option ℕ
number_if_written digits (Ok bytes) =
    if bytes_eq (encode_lower bytes) digits then Some (from_be_bytes w64 bytes) else None
number_if_written digits (Err e) = None

abbrev pub number_of : List ℕ → Option ℕ
number_of digits = number_if_written digits (decode_sized digits 8)

abbrev pub with_number : OutputKind → List ℕ → Option OutputFileName
with_number kind digits =
    option_and_then (λ number. Some (record { number = number; kind = kind })) (number_of digits)

-- the name that is written so
abbrev pub file_name_of : List ℕ → Option OutputFileName
file_name_of s = option_and_then (λ kind. with_number kind (take 16 s)) (kind_of (drop 16 s))
