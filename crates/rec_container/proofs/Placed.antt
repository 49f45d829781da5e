-- The parts and the place of an entry at an index.
use Rattle.std.proofs.Common.{zero, suc, ◌+◌, [], ◌∷◌, ◌≡◌, ℕ, List, length}
use Rattle.std.proofs.Common.{map, Some, ap, sym, subst, ◌∙◌, slice_get}
use Rattle.std.proofs.lemmas.Option.{slice_get-map}
use Rattle.std.specs.Option.{option_map}
use Rattle.rec_container.proofs.Spelling.{content_stands}
use Rattle.rec_container.specs.Container.{Entry, StandsWithin, IsPrefix, place_from}
use Rattle.rec_container.specs.declared.indexed.PlacedEntry.{PlacedEntry}
use Rattle.rec_container.specs.Placed.{placed_entry, placed_entries, PlacedFrom, ArePlaced}

-- a part of the entry at an index
pub slice_get-placed_entries : (f : Entry → List ℕ) (hs : List PlacedEntry) (i : ℕ)
    (h : PlacedEntry)
    → slice_get hs i ≡ Some h → slice_get (map f (placed_entries hs)) i ≡ Some (f (placed_entry h))
slice_get-placed_entries f hs i h is =
    slice_get-map f (placed_entries hs) i ∙ ap (option_map f) (slice_get-map placed_entry hs i)
    ∙ ap (λ o. option_map f (option_map placed_entry o)) is

the_same : (g h : PlacedEntry) → Some g ≡ Some h → g ≡ h
the_same g h is = cc

-- the place of the entry at an index
pub placed_at : (p : ℕ) (hs : List PlacedEntry) (i : ℕ) (h : PlacedEntry) → PlacedFrom p hs
    → slice_get hs i ≡ Some h → h.place ≡ place_from p (placed_entries hs) i
placed_at p [] i h q is = absurd cc
placed_at p (g ∷ hs) zero h q is = ap (λ (e : PlacedEntry). e.place) (sym (the_same g h is)) ∙ q.0
placed_at p (g ∷ hs) (suc i) h q is =
    placed_at (p + (11 + length g.name.now + length g.content.now)) hs i h q.1 is

-- entries with which bytes begin stand in them
pub prefix_placed : (bytes : List ℕ) (hs : List PlacedEntry) (rest : List ℕ)
    → IsPrefix bytes (placed_entries hs) rest → PlacedFrom 8 hs → ArePlaced bytes hs
prefix_placed bytes hs rest prefix places = record { places = places; contents = stands }
  where
    stands : (i : ℕ) (h : PlacedEntry) → slice_get hs i ≡ Some h
        → StandsWithin bytes h.place h.content.now
    stands i h is =
        let found = content_stands (placed_entries hs) rest i h.content.now
        (slice_get-placed_entries (λ e. e.content) hs i h is) in
        subst (λ (p : ℕ). StandsWithin bytes p h.content.now) (sym (placed_at 8 hs i h places is))
        (subst (λ (l : List ℕ). StandsWithin l (place_from 8 (placed_entries hs) i) h.content.now)
        (sym prefix.spelled) found)

-- the content at an index, at the place that its entry holds
pub content_placed : (bytes : List ℕ) (hs : List PlacedEntry) (i : ℕ) (h : PlacedEntry)
    (content : List ℕ)
    → ArePlaced bytes hs → slice_get hs i ≡ Some h
    → slice_get (map (λ (e : Entry). e.content) (placed_entries hs)) i ≡ Some content
    → StandsWithin bytes h.place content
content_placed bytes hs i h content placed is at =
    let same : h.content.now ≡ content =
    the_content (sym (slice_get-placed_entries (λ e. e.content) hs i h is) ∙ at) in
    subst (λ (c : List ℕ). StandsWithin bytes h.place c) same (placed.contents i h is)
  where
    the_content : {c d : List ℕ} → Some c ≡ Some d → c ≡ d
    the_content {c} {d} e = cc
