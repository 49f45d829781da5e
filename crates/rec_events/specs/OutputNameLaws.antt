-- The name of an output and how it is written.
use Rattle.std.proofs.Common.{sym, ap, ◌∙◌, arith}
use Rattle.std.proofs.lemmas.List.{take_at, drop_at, take-append-drop}
use Rattle.std.proofs.lemmas.Nat.{be_bytes_8, from_be_bytes-to_be_bytes_8}
use Rattle.std.proofs.lemmas.Slice.Eq.{bytes_eq-Decides}
use Rattle.std.specs.Int.{w64, to_be_bytes, from_be_bytes}
use Rattle.std.specs.Prelude.{◌≡◌, ◌<◌, ◌^◌, ℕ, suc, Bool, if◌then◌else◌, codes}
use Rattle.std.specs.Prelude.{option_and_then, option_map, zero, List, [], length, take}
use Rattle.std.specs.Prelude.{drop, Option, Some, None, Result, Ok, Err, refl, true, false}
use Rattle.std.specs.Str.{bytes_eq}
use Rattle.hex.proofs.HexLemmas.{length-encode_with, decode_sized-encode_lower}
use Rattle.hex.proofs.HexLemmas.{decode_sized-ok, decode_sized-twice, decode_of-ok}
use Rattle.hex.specs.declared.error.FromHexError.{FromHexError}
use Rattle.hex.specs.Hex.{encode_lower, decode_sized, IsBytes, lower_digits}
use Rattle.rec_events.specs.declared.output_names.OutputFileName.{OutputFileName}
use Rattle.rec_events.specs.declared.output_names.OutputKind.TheVariants.{Stdout, Stderr, Combined}
use Rattle.rec_events.specs.declared.output_names.OutputKind.{OutputKind}
use Rattle.rec_events.specs.OutputNames.{kind_suffix, kind_of, file_name_text, file_name_of}
use Rattle.rec_events.specs.OutputNames.{number_if_written, number_of, with_number}

-- the bytes of a number are bytes
octets : (n : ℕ) → n < 2 ^ 64 → IsBytes (to_be_bytes w64 n)
octets n small zero = omega (arith, small)
octets n small (suc zero) = omega arith
octets n small (suc (suc zero)) = omega arith
octets n small (suc (suc (suc zero))) = omega arith
octets n small (suc (suc (suc (suc zero)))) = omega arith
octets n small (suc (suc (suc (suc (suc zero))))) = omega arith
octets n small (suc (suc (suc (suc (suc (suc zero)))))) = omega arith
octets n small (suc (suc (suc (suc (suc (suc (suc zero))))))) = omega arith
octets n small (suc (suc (suc (suc (suc (suc (suc (suc i)))))))) = omega arith

sixteen : (n : ℕ) → length (encode_lower (to_be_bytes w64 n)) ≡ 16
sixteen n = length-encode_with lower_digits (to_be_bytes w64 n)

kind_back : (kind : OutputKind) → kind_of (kind_suffix kind) ≡ Some kind
kind_back Stdout = refl
kind_back Stderr = refl
kind_back Combined = refl

same : (s : List ℕ) → bytes_eq s s ≡ true
same s = (bytes_eq-Decides s s).1 refl

number_back : (n : ℕ) → n < 2 ^ 64 → number_of (encode_lower (to_be_bytes w64 n)) ≡ Some n
number_back n small =
    rw (
      decode_sized-encode_lower (to_be_bytes w64 n) 8 refl (octets n small),
      same (encode_lower (to_be_bytes w64 n)),
      from_be_bytes-to_be_bytes_8 n small,
    )

-- what is written is read
pub file_name_back : (name : OutputFileName) → name.number < 2 ^ 64
    → file_name_of (file_name_text name) ≡ Some name
file_name_back name small =
    let digits = encode_lower (to_be_bytes w64 name.number) in
    rw (
      drop_at digits (kind_suffix name.kind) 16 (sixteen name.number),
      take_at digits (kind_suffix name.kind) 16 (sixteen name.number),
      kind_back name.kind,
      number_back name.number small,
    )

-- the suffix of a kind, if there is one
abbrev suffix_in : Option OutputKind → List ℕ
suffix_in (Some kind) = kind_suffix kind
suffix_in None = []

suffix_by : (s : List ℕ) (kind : OutputKind) (a b c : Bool)
    → (if a then Some Stdout else if b then Some Stderr else if c then Some Combined else None)
    ≡ Some kind
    → (a ≡ true → s ≡ codes "-stdout") → (b ≡ true → s ≡ codes "-stderr")
    → (c ≡ true → s ≡ codes "-combined") → kind_suffix kind ≡ s
suffix_by s kind true b c h out err both = sym (ap suffix_in h) ∙ sym (out refl)
suffix_by s kind false true c h out err both = sym (ap suffix_in h) ∙ sym (err refl)
suffix_by s kind false false true h out err both = sym (ap suffix_in h) ∙ sym (both refl)
suffix_by s kind false false false h out err both = cc h

suffix_spelled : (s : List ℕ) (kind : OutputKind) → kind_of s ≡ Some kind → kind_suffix kind ≡ s
suffix_spelled s kind h =
    suffix_by
    s
    kind
    (bytes_eq s (codes "-stdout"))
    (bytes_eq s (codes "-stderr"))
    (bytes_eq s (codes "-combined"))
    h
    (bytes_eq-Decides s (codes "-stdout")).0
    (bytes_eq-Decides s (codes "-stderr")).0
    (bytes_eq-Decides s (codes "-combined")).0

-- the number, if there is one
abbrev number_in : Option ℕ → ℕ
number_in (Some n) = n
number_in None = 0

written_by : (digits bytes : List ℕ) (n : ℕ) (b : Bool)
    → (if b then Some (from_be_bytes w64 bytes) else None) ≡ Some n
    → (b ≡ true → encode_lower bytes ≡ digits) → length bytes ≡ 8 → IsBytes bytes
    → encode_lower (to_be_bytes w64 n) ≡ digits
written_by digits bytes n true h written size bounds =
    ap encode_lower (be_bytes_8 bytes n size bounds (sym (ap number_in h))) ∙ written refl
written_by digits bytes n false h written size bounds = cc h

digits_by : (digits : List ℕ) (n : ℕ) (r : Result (List ℕ) FromHexError) → decode_sized digits 8 ≡ r
    → number_if_written digits r ≡ Some n
    → encode_lower (to_be_bytes w64 n) ≡ digits
digits_by digits n (Ok bytes) is h =
    let size = decode_sized-ok digits 8 bytes is in
    let parts = decode_of-ok digits bytes (sym (decode_sized-twice digits 8 size) ∙ is) in
    written_by digits bytes n (bytes_eq (encode_lower bytes) digits) h
    (bytes_eq-Decides (encode_lower bytes) digits).0 (omega (arith, size, parts.2)) parts.3
digits_by digits n (Err e) is h = cc h

number_by : (s : List ℕ) (name : OutputFileName) (kind : OutputKind) (o : Option ℕ)
    → number_of (take 16 s) ≡ o
    → option_and_then (λ number. Some (record { number = number; kind = kind })) o ≡ Some name
    → (number_of (take 16 s) ≡ Some name.number) × (Some kind ≡ Some name.kind)
number_by s name kind (Some n) is h = (
  is ∙ ap (option_map (λ (m : OutputFileName). m.number)) h,
  ap (option_map (λ (m : OutputFileName). m.kind)) h,
)
number_by s name kind None is h = cc h

name_by : (s : List ℕ) (name : OutputFileName) (k : Option OutputKind) → kind_of (drop 16 s) ≡ k
    → option_and_then (λ kind. with_number kind (take 16 s)) k ≡ Some name → file_name_text name ≡ s
name_by s name (Some kind) is h =
    let parts = number_by s name kind (number_of (take 16 s)) refl h in
    let digits = digits_by (take 16 s) name.number (decode_sized (take 16 s) 8) refl parts.0 in
    rw (digits, suffix_spelled (drop 16 s) name.kind (is ∙ parts.1)) (take-append-drop 16 s)
name_by s name None is h = cc h

-- what is read is written so
pub file_name_spelled : (s : List ℕ) (name : OutputFileName) → file_name_of s ≡ Some name
    → file_name_text name ≡ s
file_name_spelled s name h = name_by s name (kind_of (drop 16 s)) refl h
