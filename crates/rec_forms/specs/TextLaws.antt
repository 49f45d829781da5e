-- Texts of digits, letters and marks are UTF-8.
use Rattle.std.proofs.Common.{arith, lt-ltb, ltb-true, subst}
use Rattle.std.proofs.lemmas.Bool.Decides.{nat_tests}
use Rattle.std.proofs.lemmas.Bool.{and_parts}
use Rattle.std.proofs.lemmas.Str.{IsUtf8-append, IsUtf8-from_is_utf8, is_utf8-from_IsUtf8}
use Rattle.std.specs.Fmt.{decimal, digits, digits_onto, digit_glyph}
use Rattle.std.specs.List.{list_all}
use Rattle.std.specs.Prelude.{◌≡◌, ◌==◌, ◌/◌, ◌%◌, ◌<◌, ℕ, zero, suc, Bool, true, false}
use Rattle.std.specs.Prelude.{if◌then◌else◌, List, [], ◌∷◌, ◌++◌, slice_index, refl}
use Rattle.hex.specs.Hex.{encode_with, encode_lower, lower_digits}
use Rattle.json.proofs.Printed.Utf8.{are_ascii, IsUtf8-are_ascii}
use Rattle.semver.proofs.Grammar.{version_parts-sound}
use Rattle.semver.specs.Grammar.{is_identifier_byte, is_build_identifier}
use Rattle.semver.specs.Grammar.{is_pre_identifier, is_pre_release, is_build}
use Rattle.semver.specs.Identifiers.{marked, parts_text}
use Rattle.semver.specs.Order.{parts}
use Rattle.semver.specs.OrderLaws.{join_dots, join-parts}
use Rattle.semver.specs.Parse.{Parts}
use Rattle.rec_events.specs.Names.{IsText}
use Rattle.rec_events.specs.Versions.{IsVersion}

pub IsText-are_ascii : (s : List ℕ) → are_ascii s ≡ true → IsText s
IsText-are_ascii s h = is_utf8-from_IsUtf8 s (IsUtf8-are_ascii s h)

pub IsText-append : (s t : List ℕ) → IsText s → IsText t → IsText (s ++ t)
IsText-append s t h k =
    is_utf8-from_IsUtf8 (s ++ t)
    (IsUtf8-append s t (IsUtf8-from_is_utf8 s h) (IsUtf8-from_is_utf8 t k))

ascii_cons : (b : ℕ) (s : List ℕ) → b < 128 → are_ascii s ≡ true → are_ascii (b ∷ s) ≡ true
ascii_cons b s small h = rw (lt-ltb b 128 small, h) refl

ascii_append : (s t : List ℕ) → are_ascii s ≡ true → are_ascii t ≡ true → are_ascii (s ++ t) ≡ true
ascii_append [] t h k = k
ascii_append (b ∷ s) t h k =
    let p = and_parts _ _ h in ascii_cons b (s ++ t) (ltb-true _ _ p.0) (ascii_append s t p.1 k)

-- ---- hexadecimal digits

entry_small : (table : List ℕ) (i : ℕ) → are_ascii table ≡ true → slice_index table i < 128
entry_small [] i h = omega arith
entry_small (b ∷ table) zero h = ltb-true _ _ (and_parts _ _ h).0
entry_small (b ∷ table) (suc i) h = entry_small table i (and_parts _ _ h).1

hex_ascii : (table bytes : List ℕ) → are_ascii table ≡ true
    → are_ascii (encode_with table bytes) ≡ true
unfolding encode_with
hex_ascii table [] h = refl
hex_ascii table (b ∷ bytes) h =
    let rest = encode_with table bytes in
    ascii_cons (slice_index table (b / 16)) (slice_index table (b % 16) ∷ rest)
    (entry_small table (b / 16) h)
    (ascii_cons (slice_index table (b % 16)) rest (entry_small table (b % 16) h)
    (hex_ascii table bytes h))

pub IsText-encode_lower : (bytes : List ℕ) → IsText (encode_lower bytes)
IsText-encode_lower bytes = IsText-are_ascii _ (hex_ascii lower_digits bytes refl)

-- ---- decimal digits

if_ascii : (b : Bool) (s t : List ℕ) → are_ascii s ≡ true → are_ascii t ≡ true
    → are_ascii (if b then s else t) ≡ true
if_ascii true s t h k = h
if_ascii false s t h k = k

digit_small : (n : ℕ) → digit_glyph false (n % 10) < 128
digit_small n = let small : n % 10 < 10 = omega arith in rw (lt-ltb (n % 10) 10 small) (omega arith)

digits_ascii : (k n : ℕ) (s : List ℕ) → are_ascii s ≡ true
    → are_ascii (digits_onto k 10 false n s) ≡ true
digits_ascii zero n s h = h
digits_ascii (suc k) n s h =
    let more = ascii_cons _ s (digit_small n) h in
    if_ascii (n / 10 == 0) _ _ more (digits_ascii k (n / 10) _ more)

pub decimal_ascii : (n : ℕ) → are_ascii (decimal n) ≡ true
unfolding digits
decimal_ascii n = digits_ascii 64 n [] refl

-- ---- versions

byte_small : (b : ℕ) → is_identifier_byte b ≡ true → b < 128
byte_small b h = grind (arith, nat_tests)

identifier_ascii : (s : List ℕ) → list_all is_identifier_byte s ≡ true → are_ascii s ≡ true
identifier_ascii [] h = refl
identifier_ascii (b ∷ s) h =
    let p = and_parts _ _ h in ascii_cons b s (byte_small b p.0) (identifier_ascii s p.1)

-- the parts of a text, with the dots between them
joined_ascii : (is_part : List ℕ → Bool) → ((p : List ℕ) → is_part p ≡ true → are_ascii p ≡ true)
    → (ps : List (List ℕ)) → list_all is_part ps ≡ true → are_ascii (join_dots ps) ≡ true
unfolding join_dots
joined_ascii is_part small [] h = refl
joined_ascii is_part small (p ∷ []) h = small p (and_parts _ _ h).0
joined_ascii is_part small (p ∷ q ∷ ps) h =
    let both = and_parts _ _ h in
    ascii_append p (46 ∷ join_dots (q ∷ ps)) (small p both.0)
    (joined_ascii is_part small (q ∷ ps) both.1)

text_ascii : (is_part : List ℕ → Bool) → ((p : List ℕ) → is_part p ≡ true → are_ascii p ≡ true)
    → (s : List ℕ) → list_all is_part (parts s) ≡ true → are_ascii s ≡ true
text_ascii is_part small s h =
    subst (λ t. are_ascii t ≡ true) (join-parts s) (joined_ascii is_part small (parts s) h)

build_part_ascii : (p : List ℕ) → is_build_identifier p ≡ true → are_ascii p ≡ true
build_part_ascii p h = identifier_ascii p (and_parts _ _ h).1

pre_part_ascii : (p : List ℕ) → is_pre_identifier p ≡ true → are_ascii p ≡ true
pre_part_ascii p h = build_part_ascii p (and_parts _ _ h).0

pre_ascii : (s : List ℕ) → is_pre_release s ≡ true → are_ascii (marked 45 s) ≡ true
pre_ascii [] h = refl
pre_ascii (b ∷ s) h = text_ascii is_pre_identifier pre_part_ascii (b ∷ s) h

build_ascii : (s : List ℕ) → is_build s ≡ true → are_ascii (marked 43 s) ≡ true
build_ascii [] h = refl
build_ascii (b ∷ s) h = text_ascii is_build_identifier build_part_ascii (b ∷ s) h

pub IsText-parts_text : (p : Parts) → IsVersion p → IsText (parts_text p)
IsText-parts_text p h =
    let valid = (version_parts-sound (parts_text p) p h).1 in
    IsText-are_ascii (parts_text p)
    (ascii_append (decimal p.0) _ (decimal_ascii p.0)
    (ascii_append (decimal p.1) _ (decimal_ascii p.1)
    (ascii_append (decimal p.2) _ (decimal_ascii p.2)
    (ascii_append (marked 45 p.3) (marked 43 p.4) (pre_ascii p.3 valid.3)
    (build_ascii p.4 valid.4)))))
