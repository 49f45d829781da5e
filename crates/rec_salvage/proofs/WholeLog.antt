-- The whole lines of a log.
use Rattle.std.proofs.Common.{◌≡◌, ℕ, ◌+◌, ◌-◌, ◌<◌, ◌≤◌, ◌==◌, Bool, true, false, cond, List}
use Rattle.std.proofs.Common.{[], ◌∷◌, ◌++◌, length, take, drop, get_or, position, Some, None}
use Rattle.std.proofs.Common.{nat_lt, refl, ap, subst, ◌∙◌, arith, append_assoc, if◌then◌else◌}
use Rattle.std.proofs.lemmas.Bool.Decides.{nat_tests}
use Rattle.std.proofs.lemmas.Grind.{common_steps}
use Rattle.std.proofs.lemmas.List.Elements.{All-nil, All-cons, All-head, All-tail}
use Rattle.std.proofs.lemmas.List.Sums.{fails_before_first, passes_at_first, split_at_first}
use Rattle.std.proofs.lemmas.List.{take_all}
use Rattle.std.specs.List.{position_or_len, before_first, after_first, AllByRecursion}
use Rattle.rec_codec.proofs.LineLemmas.{IsPiece, lines_at}
use Rattle.rec_codec.specs.Lines.{lines}
use Rattle.rec_salvage.specs.WholeLines.{onto_whole, sound_lines, spelled, whole_lines}

abbrev is_newline : ℕ → Bool
is_newline b = b == 10

abbrev IsOther : ℕ → Type 0
IsOther b = (b == 10) ≡ false

whole_lines-cons : (b : ℕ) (bytes : List ℕ) → IsOther b
    → whole_lines (b ∷ bytes) ≡ onto_whole b (whole_lines bytes)
whole_lines-cons b bytes e =
    ap (λ t. cond t ([] ∷ whole_lines bytes) (onto_whole b (whole_lines bytes))) e

-- a piece that ends in LF is the first line
pub first_line : (line rest : List ℕ) → IsPiece line
    → whole_lines (line ++ 10 ∷ rest) ≡ line ∷ whole_lines rest
first_line [] rest h = refl
first_line (b ∷ line) rest h =
    whole_lines-cons b (line ++ 10 ∷ rest) (All-head IsOther b line h)
    ∙ ap (onto_whole b) (first_line line rest (All-tail IsOther b line h))

-- a piece is none
pub no_line : (part : List ℕ) → IsPiece part → whole_lines part ≡ []
no_line [] h = refl
no_line (b ∷ part) h =
    whole_lines-cons b part (All-head IsOther b part h)
    ∙ ap (onto_whole b) (no_line part (All-tail IsOther b part h))

-- the whole lines of pieces that end in LF, and of a piece, are the first ones
pub lines_and_part : (ls : List (List ℕ)) (part : List ℕ) → AllByRecursion IsPiece ls → IsPiece part
    → whole_lines (spelled ls ++ part) ≡ ls
lines_and_part [] part each rest = no_line part rest
lines_and_part (line ∷ ls) part each rest =
    ap whole_lines (append_assoc (line ++ 10 ∷ []) (spelled ls) part
    ∙ append_assoc line (10 ∷ []) (spelled ls ++ part))
    ∙ first_line line (spelled ls ++ part) each.0
    ∙ ap (λ l. line ∷ l) (lines_and_part ls part each.1 rest)

-- ---- the first LF

piece_before : (bytes : List ℕ) → IsPiece (before_first is_newline bytes)
piece_before bytes =
    λ k e m. let k' = fails_before_first is_newline bytes k e (grind (arith, common_steps)) in
    grind (arith, common_steps)

split : (bytes : List ℕ) → position_or_len is_newline bytes < length bytes
    → bytes ≡ before_first is_newline bytes ++ 10 ∷ after_first is_newline bytes
split bytes l =
    let found : get_or bytes (position_or_len is_newline bytes) 0 ≡ 10 = let passes =
    passes_at_first is_newline bytes 0 l in
    grind (arith, nat_tests) in
    split_at_first is_newline bytes 0 l
    ∙ ap (λ d. before_first is_newline bytes ++ d ∷ after_first is_newline bytes) found

first : (bytes : List ℕ) → position_or_len is_newline bytes < length bytes
    → whole_lines bytes ≡ before_first is_newline bytes ∷ whole_lines (after_first is_newline bytes)
first bytes l =
    ap whole_lines (split bytes l)
    ∙ first_line (before_first is_newline bytes) (after_first is_newline bytes) (piece_before bytes)

found_at : (t : Bool) (n i : ℕ) → (if t then Some n else None) ≡ Some i → (t ≡ true) × (n ≡ i)
found_at true n i h = (refl, cc)
found_at false n i h = absurd cc

none_at : (t : Bool) (n : ℕ) → (if t then Some n else None) ≡ None → t ≡ false
none_at true n h = absurd cc
none_at false n h = refl

take_drop : (bytes : List ℕ) (n : ℕ) → take (length bytes - n) (drop n bytes) ≡ drop n bytes
take_drop bytes n = grind (arith, common_steps)

abbrev after : List ℕ → ℕ → List ℕ
after bytes end = take (length bytes - (end + 1)) (drop (end + 1) bytes)

-- what stands before the first LF is the first line
pub found : (bytes : List ℕ) (end : ℕ) → position is_newline bytes ≡ Some end
    → (whole_lines bytes ≡ take end bytes ∷ whole_lines (after bytes end))
    × (bytes ≡ take end bytes ++ 10 ∷ after bytes end)
found bytes end h =
    let f = found_at (nat_lt (position_or_len is_newline bytes) (length bytes))
    (position_or_len is_newline bytes) end h in
    let there : position_or_len is_newline bytes < length bytes = grind (arith, nat_tests) in
    rw (take_drop bytes (end + 1), ← f.1) (first bytes there, split bytes there)

-- without LF there is no line
pub missing : (bytes : List ℕ) → position is_newline bytes ≡ None → whole_lines bytes ≡ []
missing bytes h =
    let none : length bytes ≤ position_or_len is_newline bytes = let f =
    none_at (nat_lt (position_or_len is_newline bytes) (length bytes))
    (position_or_len is_newline bytes) h in
    grind (arith, nat_tests) in
    no_line bytes
    (subst IsPiece (take_all (position_or_len is_newline bytes) bytes none) (piece_before bytes))

-- ---- lines are pieces

each_piece : (bytes : List ℕ) → AllByRecursion IsPiece (whole_lines bytes)
each_piece [] = tt
each_piece (b ∷ bytes) = by (b == 10) refl (each_piece bytes)
  where
    onto : IsOther b → (ls : List (List ℕ)) → AllByRecursion IsPiece ls
        → AllByRecursion IsPiece (onto_whole b ls)
    onto other [] h = tt
    onto other (line ∷ ls) h = (All-cons IsOther b line other h.0, h.1)

    by : (t : Bool) → (b == 10) ≡ t → AllByRecursion IsPiece (whole_lines bytes)
        → AllByRecursion IsPiece
        (cond t ([] ∷ whole_lines bytes) (onto_whole b (whole_lines bytes)))
    by true is rest = (All-nil IsOther, rest)
    by false is rest = onto is (whole_lines bytes) rest

-- what holds of all lines holds of those that are sound
pub sound_have : (P : List ℕ → Type 0) (test : List ℕ → Bool) (ls : List (List ℕ))
    → AllByRecursion P ls → AllByRecursion P (sound_lines test ls)
sound_have P test [] h = tt
sound_have P test (line ∷ ls) h = by (test line) (sound_have P test ls h.1)
  where
    by : (t : Bool) → AllByRecursion P (sound_lines test ls)
        → AllByRecursion P (if t then line ∷ sound_lines test ls else [])
    by true rest = (h.0, rest)
    by false rest = tt

pub sound_pieces : (test : List ℕ → Bool) (log : List ℕ)
    → AllByRecursion IsPiece (sound_lines test (whole_lines log))
sound_pieces test log = sound_have IsPiece test (whole_lines log) (each_piece log)

-- and each of these passes
pub sound_pass : (test : List ℕ → Bool) (ls : List (List ℕ))
    → AllByRecursion (λ line. test line ≡ true) (sound_lines test ls)
sound_pass test [] = tt
sound_pass test (line ∷ ls) = by (test line) refl (sound_pass test ls)
  where
    by : (t : Bool) → test line ≡ t
        → AllByRecursion (λ line. test line ≡ true) (sound_lines test ls)
        → AllByRecursion (λ line. test line ≡ true) (if t then line ∷ sound_lines test ls else [])
    by true is rest = (is, rest)
    by false is rest = tt

-- where all pass, all are sound
pub all_sound : (test : List ℕ → Bool) (ls : List (List ℕ))
    → AllByRecursion (λ line. test line ≡ true) ls → sound_lines test ls ≡ ls
all_sound test [] h = refl
all_sound test (line ∷ ls) h =
    ap (λ t. cond t (line ∷ sound_lines test ls) []) h.0
    ∙ ap (λ l. line ∷ l) (all_sound test ls h.1)

-- pieces that are spelled are the lines of the text
pub lines_spelled : (ls : List (List ℕ)) → AllByRecursion IsPiece ls → lines (spelled ls) ≡ ls
lines_spelled [] each = refl
lines_spelled (line ∷ ls) each =
    ap lines (append_assoc line (10 ∷ []) (spelled ls)) ∙ lines_at line (spelled ls) each.0
    ∙ ap (λ l. line ∷ l) (lines_spelled ls each.1)
