-- Which prefix of a run's id stands for it.
use Rattle.std.specs.List.{Contains}
use Rattle.std.specs.Prelude.{◌≡◌, ℕ, ◌<◌, ◌≤◌, List, ◌++◌, length}
use Rattle.std.specs.Prelude.{Option, Some, None, string_bytes}
use Rattle.uuid.specs.Text.{lower, hyphenated_text}
use Rattle.rec_format.specs.declared.run_ids.ShortestRunIdPrefix.{ShortestRunIdPrefix}

abbrev pub id_text : List ℕ → List ℕ
id_text id = hyphenated_text lower id

abbrev pub BeginsWith : List ℕ → List ℕ → Type 0
BeginsWith prefix text = (rest : List ℕ) × (prefix ++ rest ≡ text)

-- no other of these ids begins with the prefix
abbrev pub IsUnique : List (List ℕ) → List ℕ → List ℕ → Type 0
IsUnique ids id prefix =
    (other : List ℕ) → Contains ids other → BeginsWith prefix (id_text other) → other ≡ id

-- the id is one of these, and its text is cut after the shortest prefix that is unique and not
-- empty
pub record IsShortest (ids : List (List ℕ)) (id : List ℕ) (cut : ShortestRunIdPrefix) : Type 0 where
  pub known : Contains ids id
  pub whole : string_bytes cut.prefix ++ string_bytes cut.rest ≡ id_text id
  pub some : 0 < length (string_bytes cut.prefix)
  pub unique : IsUnique ids id (string_bytes cut.prefix)
  pub shortest : (other : List ℕ) → BeginsWith other (id_text id) → 0 < length other
      → IsUnique ids id other → length (string_bytes cut.prefix) ≤ length other

-- there is no prefix exactly where the id isn't one of these
abbrev pub CutsShortest : List (List ℕ) → List ℕ → Option ShortestRunIdPrefix → Type 0
CutsShortest ids id None = Contains ids id → ⊥
CutsShortest ids id (Some cut) = IsShortest ids id cut
