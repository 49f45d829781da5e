-- Where what starts at a position of a list ends: at the first later position that cuts it.
use Rattle.std.specs.Option.{option_map_or}
use Rattle.std.specs.Prelude.{◌≡◌, ◌<◌, ℕ, suc, Bool, true, false, List, [], ◌∷◌, slice_get}
use Rattle.std.specs.Prelude.{Option, Some, None, if◌then◌else◌}

module _ {A : Type 0} where
  -- what stands at a position passes
  abbrev pub at : (A → Bool) → List A → ℕ → Bool
  at passes xs k = option_map_or passes (slice_get xs k) false

  -- the position of the first of these that passes, where they stand from i on
  abbrev pub first_from : (A → Bool) → ℕ → List A → Option ℕ
  first_from passes i [] = None
  first_from passes i (x ∷ xs) = if passes x then Some i else first_from passes (suc i) xs

  -- what starts at k ends at the first later position that cuts it; or there is none
  abbrev pub IsEnd : (A → Bool) → List A → ℕ → Option ℕ → Type 0
  IsEnd cuts xs k None = (j : ℕ) → k < j → at cuts xs j ≡ false
  IsEnd cuts xs k (Some z) =
      (k < z) × (at cuts xs z ≡ true) × ((j : ℕ) → k < j → j < z → at cuts xs j ≡ false)
