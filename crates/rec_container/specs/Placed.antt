-- An entry that the reader holds, as its name and content.
use Rattle.std.specs.Prelude.{◌≡◌, ℕ, ◌+◌, List, [], ◌∷◌, length, map, slice_get, Some}
use Rattle.rec_container.specs.Container.{Entry, StandsWithin}
use Rattle.rec_container.specs.declared.indexed.PlacedEntry.{PlacedEntry}

abbrev pub placed_entry : PlacedEntry → Entry
placed_entry h = record { name = h.name.now; content = h.content.now }

abbrev pub placed_entries : List PlacedEntry → List Entry
placed_entries hs = map placed_entry hs

-- each content begins where its entry, after those before it, has it
abbrev pub PlacedFrom : ℕ → List PlacedEntry → Type 0
PlacedFrom p [] = Unit {0}
PlacedFrom p (h ∷ hs) =
    (h.place ≡ p + 11 + length h.name.now)
    × PlacedFrom (p + (11 + length h.name.now + length h.content.now)) hs

-- and stands there in the bytes
pub record ArePlaced (bytes : List ℕ) (hs : List PlacedEntry) : Type 0 where
  pub places : PlacedFrom 8 hs
  pub contents : (i : ℕ) (h : PlacedEntry) → slice_get hs i ≡ Some h
      → StandsWithin bytes h.place h.content.now
