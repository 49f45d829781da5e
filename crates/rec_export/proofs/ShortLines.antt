-- A line of a text, and what trimming leaves of it, is no longer than the text.
use Rattle.std.proofs.Common.{◌≡◌, ℕ, ◌+◌, ◌≤◌, Bool, true, false, ◌&&◌, cond}
use Rattle.std.proofs.Common.{◌==◌, List, [], ◌∷◌, length, Some, None, refl}
use Rattle.std.proofs.Common.{ap, subst, arith, length-append, if◌then◌else◌}
use Rattle.std.proofs.lemmas.Bool.{and_parts}
use Rattle.std.proofs.lemmas.Str.{IsUtf8-from_is_utf8, chars-encodes, encodes-chars, scalars-chars}
use Rattle.std.specs.Char.{encode_utf8, is_whitespace}
use Rattle.std.specs.List.{AllByRecursion, onto_first}
use Rattle.std.specs.Str.{IsUtf8, all_scalars, chars, drop_trailing_whitespace, encode_utf8_all}
use Rattle.std.specs.Str.{is_utf8, skip_leading_whitespace, trim, trim_end, trim_start}
use Rattle.rec_codec.specs.Lines.{NumberedLine, lines, numbered, text_of}
use Rattle.rec_export.proofs.ShortTexts.{AllAtMost, AtMost, all_longer}

-- ---- what trimming leaves

choice : {A : Type 0} (P : A → Type 0) (b : Bool) (x y : A) → P x → P y → P (cond b x y)
choice P true x y h k = h
choice P false x y h k = k

skipped_scalars : (cs : List ℕ) → all_scalars cs ≡ true
    → all_scalars (skip_leading_whitespace cs) ≡ true
skipped_scalars [] h = refl
skipped_scalars (c ∷ cs) h =
    choice (λ ds. all_scalars ds ≡ true) (is_whitespace c) (skip_leading_whitespace cs) (c ∷ cs)
    (skipped_scalars cs (and_parts _ (all_scalars cs) h).1) h

skipped_short : (cs : List ℕ)
    → length (encode_utf8_all (skip_leading_whitespace cs)) ≤ length (encode_utf8_all cs)
skipped_short [] = omega arith
skipped_short (c ∷ cs) =
    let rest = skipped_short cs in
    choice (λ ds. length (encode_utf8_all ds) ≤ length (encode_utf8_all (c ∷ cs))) (is_whitespace c)
    (skip_leading_whitespace cs) (c ∷ cs)
    (omega (arith, rest, length-append (encode_utf8 c) (encode_utf8_all cs))) (omega arith)

dropped_short : (cs : List ℕ)
    → length (encode_utf8_all (drop_trailing_whitespace cs)) ≤ length (encode_utf8_all cs)
dropped_short [] = omega arith
dropped_short (c ∷ cs) =
    let rest = dropped_short cs in
    let later = drop_trailing_whitespace cs in
    choice (λ ds. length (encode_utf8_all ds) ≤ length (encode_utf8_all (c ∷ cs)))
    (is_whitespace c && length later == 0) [] (c ∷ later)
    (omega arith) (omega (
      arith,
      rest,
      length-append (encode_utf8 c) (encode_utf8_all cs),
      length-append (encode_utf8 c) (encode_utf8_all later),
    ))

trim_short : (bytes : List ℕ) → IsUtf8 bytes → length (trim bytes) ≤ length bytes
unfolding trim_start trim_end
trim_short bytes u =
    let skipped = skip_leading_whitespace (chars bytes) in
    let again : chars (encode_utf8_all skipped) ≡ skipped =
    chars-encodes skipped (skipped_scalars (chars bytes) (scalars-chars bytes u)) in
    let ends = dropped_short skipped in
    let starts = skipped_short (chars bytes) in
    omega (
      arith,
      ends,
      starts,
      ap (λ cs. length (encode_utf8_all (drop_trailing_whitespace cs))) again,
      ap length (encodes-chars bytes u),
    )

text_short : (bytes : List ℕ) (b : Bool) → is_utf8 bytes ≡ b
    → AtMost (length bytes) (if b then Some (trim bytes) else None)
text_short bytes true e = trim_short bytes (IsUtf8-from_is_utf8 bytes e)
text_short bytes false e = tt

pub text_of_short : (bytes : List ℕ) → AtMost (length bytes) (text_of bytes)
text_of_short bytes = text_short bytes (is_utf8 bytes) refl

-- ---- lines

onto_first_short : (n b : ℕ) (bs : List (List ℕ)) → AllAtMost n bs
    → AllAtMost (n + 1) (onto_first b bs)
onto_first_short n b [] h = (omega arith, tt)
onto_first_short n b (part ∷ parts) h =
    (let first = h.0 in omega (arith, first), all_longer (n + 1) n parts h.1 (omega arith))

lines_short : (text : List ℕ) → AllAtMost (length text) (lines text)
lines_short [] = tt
lines_short (b ∷ bytes) =
    let n = length bytes in
    let rest : AllAtMost (n + 1) (onto_first b (lines bytes)) =
    onto_first_short n b (lines bytes) (lines_short bytes) in
    let all : AllAtMost (n + 1) (if b == 10 then [] ∷ lines bytes else onto_first b (lines bytes)) =
    choice (AllAtMost (n + 1)) (b == 10) ([] ∷ lines bytes) (onto_first b (lines bytes))
    (omega arith, all_longer (n + 1) n (lines bytes) (lines_short bytes) (omega arith)) rest in
    subst (λ k. AllAtMost k (lines (b ∷ bytes))) (omega arith) all

-- the lines are at most so long
abbrev pub AreWithin : ℕ → List NumberedLine → Type 0
AreWithin n ls = AllByRecursion (λ l. length l.bytes ≤ n) ls

numbered_short : (n k : ℕ) (bs : List (List ℕ)) → AllAtMost n bs → AreWithin n (numbered k bs)
numbered_short n k [] h = tt
numbered_short n k (b ∷ bs) h = (h.0, numbered_short n (k + 1) bs h.1)

pub numbered_lines_short : (k : ℕ) (text : List ℕ)
    → AreWithin (length text) (numbered k (lines text))
numbered_lines_short k text = numbered_short (length text) k (lines text) (lines_short text)
