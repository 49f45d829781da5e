-- The lines of a log that was stopped: those that end in LF,
-- and the first of them that pass a test.
use Rattle.std.specs.List.{flat_map}
use Rattle.std.specs.Prelude.{◌≡◌, ℕ, ◌==◌, Bool, List, [], ◌∷◌, ◌++◌, if◌then◌else◌}

abbrev pub onto_whole : ℕ → List (List ℕ) → List (List ℕ)
onto_whole b [] = []
onto_whole b (line ∷ lines) = (b ∷ line) ∷ lines

-- the pieces before each LF; what stands after the last LF is none
abbrev pub whole_lines : List ℕ → List (List ℕ)
whole_lines [] = []
whole_lines (b ∷ bytes) =
    if b == 10 then [] ∷ whole_lines bytes else onto_whole b (whole_lines bytes)

-- the first line that ends in LF, and what stands after it
abbrev pub Splits : List ℕ → List ℕ → List ℕ → Type 0
Splits bytes line after =
    (whole_lines bytes ≡ line ∷ whole_lines after) × (bytes ≡ line ++ 10 ∷ after)

-- the longest prefix of lines that pass a test
abbrev pub sound_lines : (List ℕ → Bool) → List (List ℕ) → List (List ℕ)
sound_lines test [] = []
sound_lines test (line ∷ lines) = if test line then line ∷ sound_lines test lines else []

-- lines as they stand in a log
abbrev pub spelled : List (List ℕ) → List ℕ
spelled lines = flat_map (λ line. line ++ 10 ∷ []) lines
