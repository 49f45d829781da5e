-- Run ids in a map by their texts.
use Rattle.std.proofs.Common.{Less}
use Rattle.std.specs.BTreeMap.{BTreeMap, get}
use Rattle.std.specs.declared.alloc.Global.{Global}
use Rattle.std.specs.List.{AllByRecursion, common_prefix_len}
use Rattle.std.specs.Prelude.{◌≡◌, ◌⊎◌, ℕ, ◌≤◌, List, map, Some}
use Rattle.std.specs.Prelude.{IsSome, nat_eq, String, string_bytes}
use Rattle.std.specs.String.{string_cmp}
use Rattle.uuid.specs.Text.{parsed}
use Rattle.rec_format.specs.RunIds.{id_text}

-- the string is the id's text, and reads back
pub record IsTextOf (id : List ℕ) (text : String Global) : Type 0 where
  pub is : string_bytes text ≡ id_text id
  pub back : parsed (string_bytes text) ≡ Some id

abbrev pub ids_in : List (String Global × List ℕ) → List (List ℕ)
ids_in entries = map (λ e. e.1) entries

-- each id stands at its own text
abbrev pub AreTexts : List (String Global × List ℕ) → Type 0
AreTexts = AllByRecursion (λ e. IsTextOf e.1 e.0)

-- how many bytes two strings have in common at their starts
abbrev pub common : String Global → String Global → ℕ
common a b = common_prefix_len nat_eq (string_bytes a) (string_bytes b)

-- so many bytes of the text are the most that a key on one side of it shares
pub record IsMostShared (Beside : String Global → Type 0)
    (entries : BTreeMap (String Global) (List ℕ)) (text : String Global) (n : ℕ) : Type 0 where
  pub bound : (key : String Global) → Beside key → IsSome (get string_cmp entries key)
      → common key text ≤ n
  pub reached : (n ≡ 0) ⊎ ((key : String Global) × Beside key × IsSome (get string_cmp entries key)
      × (common key text ≡ n))

-- a key below the text
abbrev pub IsBelow : String Global → String Global → Type 0
IsBelow text key = string_cmp key text ≡ Less

-- a key above the text
abbrev pub IsAbove : String Global → String Global → Type 0
IsAbove text key = string_cmp text key ≡ Less
