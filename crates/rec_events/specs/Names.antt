-- Texts by their bytes, in the order of their bytes.
use Rattle.std.specs.BTreeSet.{insert_key}
use Rattle.std.specs.Cmp.Lexicographic.{slice_cmp}
use Rattle.std.specs.declared.alloc.Global.{Global}
use Rattle.std.specs.List.Sorted.{IsStrictlySortedBy}
use Rattle.std.specs.List.{AllByRecursion}
use Rattle.std.specs.Ordering.{nat_cmp}
use Rattle.std.specs.Prelude.{ℕ, List, map, IsTrue, String, string_bytes}
use Rattle.std.specs.Str.{is_utf8}

-- each text is below those after it, so none comes twice
abbrev pub Rise : List (List ℕ) → Type 0
Rise = IsStrictlySortedBy (slice_cmp nat_cmp)

abbrev pub IsText : List ℕ → Type 0
IsText s = IsTrue (is_utf8 s)

abbrev pub AreTexts : List (List ℕ) → Type 0
AreTexts = AllByRecursion IsText

-- the texts of these strings
abbrev pub texts : List (String Global) → List (List ℕ)
texts ss = map string_bytes ss

-- a set with this name, at its place
abbrev pub with_name : List (List ℕ) → List ℕ → List (List ℕ)
with_name = insert_key (slice_cmp nat_cmp)
