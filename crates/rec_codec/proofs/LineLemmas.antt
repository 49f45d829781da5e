-- The first line of a text, and lines as texts.
use Rattle.std.proofs.Common.{◌≡◌, ℕ, ◌+◌, ◌-◌, ◌<◌, ◌≤◌, ◌==◌, List, [], ◌∷◌, ◌++◌}
use Rattle.std.proofs.Common.{length, take, drop, get_or, Option, Some, None, Bool, true}
use Rattle.std.proofs.Common.{false, nat_lt, if◌then◌else◌, ap, subst, ◌∙◌, refl, arith}
use Rattle.std.proofs.lemmas.Bool.Decides.{nat_tests}
use Rattle.std.proofs.lemmas.Grind.{common_steps}
use Rattle.std.proofs.lemmas.List.Elements.{All-head, All-tail}
use Rattle.std.proofs.lemmas.List.Sums.{fails_before_first, passes_at_first}
use Rattle.std.proofs.lemmas.List.Sums.{position_or_len_is, split_at_first}
use Rattle.std.proofs.lemmas.List.{take_all}
use Rattle.std.proofs.lemmas.Str.{is_utf8-from_IsUtf8, IsUtf8-from_is_utf8}
use Rattle.std.specs.List.{position, position_or_len, before_first, after_first, onto_first, All}
use Rattle.std.specs.Str.{is_utf8, trim, IsUtf8}
use Rattle.memchr.specs.Find.{IsFirstByte, is_byte}
use Rattle.rec_codec.specs.Lines.{lines, text_of}

-- a line that is UTF-8 is a text
pub text_of-utf8 : (bytes : List ℕ) → IsUtf8 bytes → text_of bytes ≡ Some (trim bytes)
text_of-utf8 bytes h = rw (is_utf8-from_IsUtf8 bytes h) refl

text_at : (b : Bool) (text : List ℕ) → (b ≡ true → ⊥) → (if b then Some text else None) ≡ None
text_at true text h = absurd (h refl)
text_at false text h = refl

-- a line that isn't UTF-8 is none
pub text_of-other : (bytes : List ℕ) → ¬ (IsUtf8 bytes) → text_of bytes ≡ None
text_of-other bytes h = text_at (is_utf8 bytes) (trim bytes) (λ e. h (IsUtf8-from_is_utf8 bytes e))

abbrev is_newline : ℕ → Bool
is_newline b = b == 10

-- no byte of a piece is a newline
abbrev pub IsPiece : List ℕ → Type 0
IsPiece bytes = All (λ b. (b == 10) ≡ false) bytes

lines-cons_other : (b : ℕ) (bytes : List ℕ) → (b == 10) ≡ false
    → lines (b ∷ bytes) ≡ onto_first b (lines bytes)
lines-cons_other b bytes e = ap (λ t. if t then [] ∷ lines bytes else onto_first b (lines bytes)) e

-- what stands before a newline is the first line
pub lines_at : (line rest : List ℕ) → IsPiece line → lines (line ++ 10 ∷ rest) ≡ line ∷ lines rest
lines_at [] rest h = refl
lines_at (b ∷ line) rest h =
    lines-cons_other b (line ++ 10 ∷ rest) (All-head (λ d. (d == 10) ≡ false) b line h)
    ∙ ap (onto_first b) (lines_at line rest (All-tail (λ d. (d == 10) ≡ false) b line h))

-- what has no newline is one line
pub lines_only : (b : ℕ) (line : List ℕ) → IsPiece (b ∷ line) → lines (b ∷ line) ≡ (b ∷ line) ∷ []
lines_only b [] h = lines-cons_other b [] (All-head (λ d. (d == 10) ≡ false) b [] h)
lines_only b (d ∷ line) h =
    lines-cons_other b (d ∷ line) (All-head (λ e. (e == 10) ≡ false) b (d ∷ line) h)
    ∙ ap (onto_first b) (lines_only d line (All-tail (λ e. (e == 10) ≡ false) b (d ∷ line) h))

piece_before : (bytes : List ℕ) → IsPiece (before_first is_newline bytes)
piece_before bytes =
    λ k e m. let k' = fails_before_first is_newline bytes k e (grind (arith, common_steps)) in
    grind (arith, common_steps)

lines_first : (bytes : List ℕ) → position_or_len is_newline bytes < length bytes
    → lines bytes ≡ before_first is_newline bytes ∷ lines (after_first is_newline bytes)
lines_first bytes l =
    let found : get_or bytes (position_or_len is_newline bytes) 0 ≡ 10 = let passes =
    passes_at_first is_newline bytes 0 l in
    grind (arith, nat_tests) in
    ap lines (split_at_first is_newline bytes 0 l
    ∙ ap (λ d. before_first is_newline bytes ++ d ∷ after_first is_newline bytes) found)
    ∙ lines_at (before_first is_newline bytes) (after_first is_newline bytes) (piece_before bytes)

whole_piece : (bytes : List ℕ) → length bytes ≤ position_or_len is_newline bytes → IsPiece bytes
whole_piece bytes l =
    subst IsPiece (take_all (position_or_len is_newline bytes) bytes l) (piece_before bytes)

lines_none : (bytes : List ℕ) → length bytes ≤ position_or_len is_newline bytes → 0 < length bytes
    → lines bytes ≡ bytes ∷ []
lines_none [] l n = absurd (omega arith)
lines_none (b ∷ bytes) l n = lines_only b bytes (whole_piece (b ∷ bytes) l)

fails : (b : Bool) → ¬ (b ≡ true) → b ≡ false
fails true h = absurd (h refl)
fails false h = refl

-- what a search for newlines finds is the place of the first one
pub first_newline : (bytes : List ℕ) (r : Option ℕ) → IsFirstByte (is_byte 10) bytes r
    → r ≡ position is_newline bytes
first_newline bytes None h =
    let at : position_or_len is_newline bytes ≡ length bytes =
    position_or_len_is is_newline bytes (length bytes) 0 (omega arith)
    (λ k l. fails _ (h k (omega arith) l)) (λ l. absurd (omega (arith, l))) in
    rw at (grind (arith, nat_tests))
first_newline bytes (Some k) h =
    let at : position_or_len is_newline bytes ≡ k = position_or_len_is is_newline bytes k 0
    (omega (arith, h.0.high)) (λ j l. fails _ (h.0.before j (omega arith) l)) (λ l. h.1) in
    rw at (let inside = h.0.high in grind (arith, nat_tests))

found_at : (t : Bool) (n i : ℕ) → (if t then Some n else None) ≡ Some i → (t ≡ true) × (n ≡ i)
found_at true n i h = (refl, cc)
found_at false n i h = absurd cc

none_at : (t : Bool) (n : ℕ) → (if t then Some n else None) ≡ None → t ≡ false
none_at true n h = absurd cc
none_at false n h = refl

take_drop : (bytes : List ℕ) (n : ℕ) → take (length bytes - n) (drop n bytes) ≡ drop n bytes
take_drop bytes n = grind (arith, common_steps)

-- a newline was found: what stands before it, and the lines after it
pub lines_found : (bytes : List ℕ) (end : ℕ) → position is_newline bytes ≡ Some end
    → lines bytes ≡ take end bytes ∷ lines (take (length bytes - (end + 1)) (drop (end + 1) bytes))
lines_found bytes end h =
    let f = found_at (nat_lt (position_or_len is_newline bytes) (length bytes))
    (position_or_len is_newline bytes) end h in
    let found : position_or_len is_newline bytes < length bytes = grind (arith, nat_tests) in
    rw (take_drop bytes (end + 1), ← f.1) (lines_first bytes found)

-- no newline was found
pub lines_missing : (bytes : List ℕ) → position is_newline bytes ≡ None → 0 < length bytes
    → lines bytes ≡ bytes ∷ lines (take (length bytes - length bytes) (drop (length bytes) bytes))
lines_missing bytes h n =
    let missing : length bytes ≤ position_or_len is_newline bytes = let f =
    none_at (nat_lt (position_or_len is_newline bytes) (length bytes))
    (position_or_len is_newline bytes) h in
    grind (arith, nat_tests) in
    let nothing : take (length bytes - length bytes) (drop (length bytes) bytes) ≡ [] =
    grind (arith, common_steps) in
    rw nothing (lines_none bytes missing n)
