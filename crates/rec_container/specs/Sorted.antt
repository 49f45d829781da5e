-- Contents under names that ascend.
use Rattle.std.specs.Borrow.{Bor}
use Rattle.std.specs.BTreeMap.{is_at}
use Rattle.std.specs.Cmp.Lexicographic.{slice_cmp}
use Rattle.std.specs.declared.cmp.Ordering.{Ordering}
use Rattle.std.specs.List.Sorted.{IsStrictlySortedBy}
use Rattle.std.specs.Map.{keys_of, lookup}
use Rattle.std.specs.Option.{option_map}
use Rattle.std.specs.Ordering.{nat_cmp}
use Rattle.std.specs.Prelude.{◌≡◌, ℕ, List, length, Bool}
use Rattle.rec_container.specs.Container.{content_of}
use Rattle.rec_container.specs.declared.indexed.PlacedEntry.{PlacedEntry}
use Rattle.rec_container.specs.Placed.{placed_entries}

-- names with their contents
abbrev pub Contents : Type 0
Contents = List (Bor (List ℕ) × Bor (List ℕ))

-- names are in the order of their bytes
abbrev pub name_cmp : Bor (List ℕ) → Bor (List ℕ) → Ordering
name_cmp a b = slice_cmp nat_cmp a.now b.now

-- this is the name
abbrev pub is_named : List ℕ → Bor (List ℕ) → Bool
is_named name = is_at (λ held. slice_cmp nat_cmp name held.now)

-- each name is below those after it
abbrev pub Ascend : Contents → Type 0
Ascend contents = IsStrictlySortedBy name_cmp (keys_of contents)

-- the content of each entry is found under its name, and nothing else is there
pub record HasContents (contents : Contents) (hs : List PlacedEntry) : Type 0 where
  pub found : (name : List ℕ)
      → option_map (λ c. c.now) (lookup (is_named name) contents)
      ≡ content_of (placed_entries hs) name
  pub count : length contents ≡ length hs

-- the same, in the order of the names
pub record IsSortedOf (contents : Contents) (hs : List PlacedEntry) : Type 0 where
  pub ascend : Ascend contents
  pub has : HasContents contents hs
