-- The pieces of a path, taken off one after another.
use Rattle.std.proofs.Common.{◌≡◌, ℕ, List, [], ◌∷◌, length, Option, Some}
use Rattle.std.proofs.Common.{None, Bool, true, false, Bor, refl, arith, lit<}
use Rattle.std.proofs.lemmas.List.Splits.{slice_split_first}
use Rattle.std.proofs.lemmas.Str.Pattern.{IsSplitOnceResult, split_once_first}
use Rattle.std.specs.List.{slice_split, position_or_len}
use Rattle.std.specs.Option.{MatchOption}
use Rattle.std.specs.Prelude.{codes, not, if◌then◌else◌}
use Rattle.std.specs.Str.{bytes_eq}
use Rattle.rec_format.specs.declared.paths.OutputDict.TheVariants as dict
use Rattle.rec_format.specs.declared.paths.OutputDict.{OutputDict}
use Rattle.rec_format.specs.Paths.{pieces, dict_of_pieces}

whole_step : (p : ℕ → Bool) (x : ℕ) (xs : List ℕ) (b : Bool) → p x ≡ b
    → position_or_len p (x ∷ xs) ≡ length (x ∷ xs)
    → (position_or_len p xs ≡ length xs → slice_split p xs ≡ xs ∷ [])
    → slice_split p (x ∷ xs) ≡ (x ∷ xs) ∷ []
whole_step p x xs true is h rest = let k = rw is at h in absurd (omega (arith, k))
whole_step p x xs false is h rest = let k = rw is at h in rw (is, rest (omega (arith, k)))

-- where nothing passes, the list is the one piece
slice_split_whole : (p : ℕ → Bool) (xs : List ℕ) → position_or_len p xs ≡ length xs
    → slice_split p xs ≡ xs ∷ []
slice_split_whole p [] h = refl
slice_split_whole p (x ∷ xs) h = whole_step p x xs (p x) refl h (slice_split_whole p xs)

-- `split_once` at a slash takes off the first piece
pub pieces_split : (path : List ℕ) (r : Option (Bor (List ℕ) × Bor (List ℕ)))
    → IsSplitOnceResult 47 path r
    → MatchOption r (pieces path ≡ path ∷ []) (λ x. pieces path ≡ x.0.now ∷ pieces x.1.now)
pieces_split path None h = slice_split_whole _ path (split_once_first 47 path None h (lit< tt))
pieces_split path (Some x) h =
    let found = split_once_first 47 path (Some x) h (lit< tt) in
    rw (found.1, found.2) (slice_split_first _ path 0 found.0)

either_none : (b : Bool) → dict.None ≡ (if b then dict.None else dict.None)
either_none true = refl
either_none false = refl

-- nothing is below a piece that stands alone
pub dict_alone : (first : List ℕ) → dict.None ≡ dict_of_pieces (first ∷ [])
dict_alone first = either_none (bytes_eq first (codes "out"))

not_then : (b : Bool) (other : OutputDict) → true ≡ not b
    → dict.None ≡ (if b then other else dict.None)
not_then true other h = absurd (cc h)
not_then false other h = refl

-- only what is below `out` is an output
pub dict_elsewhere : (first : List ℕ) (below : List (List ℕ))
    → true ≡ not (bytes_eq first (codes "out")) → dict.None ≡ dict_of_pieces (first ∷ below)
dict_elsewhere first below h = not_then (bytes_eq first (codes "out")) _ h
