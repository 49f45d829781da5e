-- Words as a shell reads them.
use Rattle.std.specs.List.{flat_map, list_any, join_by}
use Rattle.std.specs.Prelude.{ℕ, nat_eq, nat_le, nat_lt, length, ◌&&◌, ◌||◌, Bool, true}
use Rattle.std.specs.Prelude.{List, [], ◌∷◌, ◌++◌, codes, if◌then◌else◌, encode_utf8}
use Rattle.std.specs.Str.{chars}

abbrev pub is_within : ℕ → ℕ → ℕ → Bool
is_within low high c = nat_le low c && nat_le c high

-- A to Z, a to z, 0 to 9
abbrev pub is_letter_or_digit : ℕ → Bool
is_letter_or_digit c = is_within 65 90 c || is_within 97 122 c || is_within 48 57 c

-- a character that a shell reads as itself
abbrev pub is_plain : ℕ → Bool
is_plain c = is_letter_or_digit c || list_any (nat_eq c) (codes "_-./,:@+")

abbrev pub are_plain : List ℕ → Bool
are_plain [] = true
are_plain (c ∷ cs) = is_plain c && are_plain cs

-- a word that can stand as it is
abbrev pub is_plain_word : List ℕ → Bool
is_plain_word word = nat_lt 0 (length word) && are_plain word

-- a single quote ends the quoted text, stands after a backslash, and begins the quoted text again
abbrev pub within_quotes : ℕ → List ℕ
within_quotes c = if nat_eq c 39 then codes "'\\''" else encode_utf8 c

abbrev pub quoted : List ℕ → List ℕ
quoted word = codes "'" ++ (flat_map within_quotes (chars word) ++ codes "'")

abbrev pub shell_word : List ℕ → List ℕ
shell_word word = if is_plain_word word then word else quoted word

-- the words, with a space between each two
abbrev pub shell_words : {W : Type 0} → (W → List ℕ) → List W → List ℕ
shell_words text words = join_by (λ w. shell_word (text w)) (codes " ") words
