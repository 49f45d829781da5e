-- The lines of a text.
use Rattle.std.specs.List.{onto_first}
use Rattle.std.specs.Prelude.{ℕ, ◌+◌, ◌==◌, List, [], ◌∷◌, length}
use Rattle.std.specs.Prelude.{Option, Some, None, Bool, if◌then◌else◌}
use Rattle.std.specs.Str.{is_utf8, trim}

-- the pieces between newlines; what stands after the last newline is a line where it isn't empty
abbrev pub lines : List ℕ → List (List ℕ)
lines [] = []
lines (b ∷ bytes) = if b == 10 then [] ∷ lines bytes else onto_first b (lines bytes)

-- a line with its number
pub record NumberedLine : Type 0 where
  pub number : ℕ
  pub bytes : List ℕ

-- lines, numbered from here on
abbrev pub numbered : ℕ → List (List ℕ) → List NumberedLine
numbered n [] = []
numbered n (line ∷ lines) = record { number = n; bytes = line } ∷ numbered (n + 1) lines

-- a line as a text without the white space at its ends, where it is UTF-8
abbrev pub text_of : List ℕ → Option (List ℕ)
text_of line = if is_utf8 line then Some (trim line) else None

-- nothing is left of a text
abbrev pub is_blank : List ℕ → Bool
is_blank text = length text == 0
