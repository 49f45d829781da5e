-- The compact text of a value has no newline, and that of an object stands between braces.
use Rattle.std.proofs.Common.{◌≡◌, ℕ, zero, suc, ◌+◌, ◌/◌, ◌%◌, ◌<◌, ◌==◌, Bool, true}
use Rattle.std.proofs.Common.{false, not, ◌&&◌, nat_lt, if◌then◌else◌, List, [], ◌∷◌, ◌++◌}
use Rattle.std.proofs.Common.{refl, ap, ◌∙◌, inl, inr, arith, append_assoc, pos, negsuc}
use Rattle.std.proofs.lemmas.Bool.{and_parts, cases_lt, cases_eq, ne_eqb}
use Rattle.std.proofs.lemmas.List.Elements.{All-from_recursion}
use Rattle.std.proofs.lemmas.List.Folds.{list_all-append}
use Rattle.std.specs.Fmt.{decimal, digits, digits_onto, digit_glyph}
use Rattle.std.specs.List.{list_all, AllByRecursion}
use Rattle.json.proofs.Printed.Strings.{escape_byte_plain}
use Rattle.json.specs.Print.{escape_byte, escape, quoted}
use Rattle.serde_json.specs.Data.{Num, unsigned, negative, float, Data, null}
use Rattle.serde_json.specs.Data.{boolean, number, string, array, object, Items}
use Rattle.serde_json.specs.Data.{no_items, item, Members, no_members, member}
use Rattle.serde_json.specs.Written.{compact_text, items_text, members_text, number_text, comma_if}
use Rattle.rec_codec.proofs.LineLemmas.{IsPiece}

abbrev pub is_other : ℕ → Bool
is_other b = not (b == 10)

-- whether no byte is a newline
abbrev pub is_piece : List ℕ → Bool
is_piece bytes = list_all is_other bytes

is_not : (b : Bool) → not b ≡ true → b ≡ false
is_not true h = absurd cc
is_not false h = refl

by_recursion : (bytes : List ℕ) → is_piece bytes ≡ true
    → AllByRecursion (λ b. (b == 10) ≡ false) bytes
by_recursion [] h = tt
by_recursion (b ∷ bytes) h =
    let p = and_parts _ _ h in (is_not (b == 10) p.0, by_recursion bytes p.1)

pub IsPiece-from_is_piece : (bytes : List ℕ) → is_piece bytes ≡ true → IsPiece bytes
IsPiece-from_is_piece bytes h =
    All-from_recursion (λ b. (b == 10) ≡ false) bytes (by_recursion bytes h)

is_other-from_ne : (b : ℕ) → (b ≡ 10 → ⊥) → is_other b ≡ true
is_other-from_ne b h = ap not (ne_eqb b 10 h)

append_piece : (xs ys : List ℕ) → is_piece xs ≡ true → is_piece ys ≡ true
    → is_piece (xs ++ ys) ≡ true
append_piece xs ys h k = list_all-append is_other xs ys ∙ rw (h, k) refl

cons_piece : (b : ℕ) (xs : List ℕ) → is_other b ≡ true → is_piece xs ≡ true
    → is_piece (b ∷ xs) ≡ true
cons_piece b xs h k = rw (h, k) refl

if_piece : (b : Bool) (xs ys : List ℕ) → is_piece xs ≡ true → is_piece ys ≡ true
    → is_piece (if b then xs else ys) ≡ true
if_piece true xs ys h k = h
if_piece false xs ys h k = k

-- ---- numbers

if_other : (b : Bool) (m n : ℕ) → is_other m ≡ true → is_other n ≡ true
    → is_other (if b then m else n) ≡ true
if_other true m n h k = h
if_other false m n h k = k

digit_other : (d : ℕ) → is_other (digit_glyph false d) ≡ true
digit_other d =
    if_other (nat_lt d 10) (48 + d) (87 + d) (is_other-from_ne (48 + d) (λ e. omega arith))
    (is_other-from_ne (87 + d) (λ e. omega arith))

digits_onto_piece : (k n : ℕ) (bytes : List ℕ) → is_piece bytes ≡ true
    → is_piece (digits_onto k 10 false n bytes) ≡ true
digits_onto_piece zero n bytes h = h
digits_onto_piece (suc k) n bytes h =
    let more : is_piece (digit_glyph false (n % 10) ∷ bytes) ≡ true =
    cons_piece _ bytes (digit_other (n % 10)) h in
    if_piece (n / 10 == 0) _ _ more (digits_onto_piece k (n / 10) _ more)

decimal_piece : (n : ℕ) → is_piece (decimal n) ≡ true
unfolding digits
decimal_piece n = digits_onto_piece 64 n [] refl

number_piece : (n : Num) → is_piece (number_text n) ≡ true
number_piece (unsigned n) = decimal_piece n
number_piece (negative (pos n)) = decimal_piece n
number_piece (negative (negsuc n)) = decimal_piece (suc n)
number_piece (float x) = refl

-- ---- texts

-- the escapes of the bytes below n
abbrev escapes_below : ℕ → Bool
escapes_below zero = true
escapes_below (suc n) = is_piece (escape_byte n) && escapes_below n

small_escapes : escapes_below 93 ≡ true
unfolding escape_byte
small_escapes = refl

escape_below : (n : ℕ) → escapes_below n ≡ true → (x : ℕ) → x < n → is_piece (escape_byte x) ≡ true
escape_below zero h x small = absurd (omega arith)
escape_below (suc n) h x small =
    let p = and_parts _ _ h in
    elim (cases_eq x n) [ inl same ↦ rw same p.0 | inr other ↦ escape_below n p.1 x (omega arith) ]

escape_byte_piece : (x : ℕ) → is_piece (escape_byte x) ≡ true
escape_byte_piece x = elim (cases_lt x 93) [
  | inl small ↦ escape_below 93 small_escapes x small
  | inr large ↦
      rw (escape_byte_plain x (λ e. omega arith) (λ e. omega arith) (omega arith))
      (cons_piece x [] (is_other-from_ne x (λ e. omega arith)) refl)
]

escape_piece : (s : List ℕ) → is_piece (escape s) ≡ true
escape_piece [] = refl
escape_piece (x ∷ s) =
    append_piece (escape_byte x) (escape s) (escape_byte_piece x) (escape_piece s)

quoted_piece : (s : List ℕ) → is_piece (quoted s) ≡ true
quoted_piece s = append_piece (escape s) (34 ∷ []) (escape_piece s) refl

-- ---- values

comma_piece : (later : Bool) → is_piece (comma_if later) ≡ true
comma_piece true = refl
comma_piece false = refl

mutual
  pub compact_text_piece : (d : Data) → is_piece (compact_text d) ≡ true
  compact_text_piece null = refl
  compact_text_piece (boolean true) = refl
  compact_text_piece (boolean false) = refl
  compact_text_piece (number n) = number_piece n
  compact_text_piece (string s) = quoted_piece s
  compact_text_piece (array ds) = items_text_piece false ds
  compact_text_piece (object ms) = members_text_piece false ms

  items_text_piece : (later : Bool) (ds : Items) → is_piece (items_text later ds) ≡ true
  items_text_piece later no_items = refl
  items_text_piece later (item d ds) =
      append_piece (comma_if later) (compact_text d ++ items_text true ds) (comma_piece later)
      (append_piece (compact_text d) (items_text true ds) (compact_text_piece d)
      (items_text_piece true ds))

  members_text_piece : (later : Bool) (ms : Members) → is_piece (members_text later ms) ≡ true
  members_text_piece later no_members = refl
  members_text_piece later (member k d ms) =
      append_piece (comma_if later) (quoted k ++ 58 ∷ (compact_text d ++ members_text true ms))
      (comma_piece later)
      (append_piece (quoted k) (58 ∷ (compact_text d ++ members_text true ms)) (quoted_piece k)
      (append_piece (compact_text d) (members_text true ms) (compact_text_piece d)
      (members_text_piece true ms)))

-- ---- how the text of an object ends

regroup : (a b c d e : List ℕ) → a ++ (b ++ 58 ∷ (c ++ (d ++ e))) ≡ (a ++ (b ++ 58 ∷ (c ++ d))) ++ e
regroup a b c d e = simp append_assoc

pub members_text_end : (later : Bool) (ms : Members)
    → (prefix : List ℕ) × (members_text later ms ≡ prefix ++ 125 ∷ [])
members_text_end later no_members = ([], refl)
members_text_end later (member k d ms) =
    let end = members_text_end true ms in (
      comma_if later ++ (quoted k ++ 58 ∷ (compact_text d ++ end.0)),
      ap (λ t. comma_if later ++ (quoted k ++ 58 ∷ (compact_text d ++ t))) end.1
          ∙ regroup (comma_if later) (quoted k) (compact_text d) end.0 (125 ∷ []),
    )
