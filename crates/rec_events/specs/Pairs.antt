-- A map from texts as the list of its pairs, in the order of their keys.
use Rattle.std.specs.Cmp.Lexicographic.{slice_cmp}
use Rattle.std.specs.declared.alloc.Global.{Global}
use Rattle.std.specs.Ordering.{nat_cmp, match_ordering}
use Rattle.std.specs.Prelude.{ℕ, List, [], ◌∷◌, map, String, string_bytes}
use Rattle.rec_events.specs.Names.{Rise}

abbrev pub pairs : {V : Type 0} → List (String Global × V) → List (List ℕ × V)
pairs es = map (λ e. (string_bytes e.0, e.1)) es

abbrev pub keys : {V : Type 0} → List (List ℕ × V) → List (List ℕ)
keys ps = map (λ p. p.0) ps

-- each key is below those after it, so none comes twice
abbrev pub KeysRise : {V : Type 0} → List (List ℕ × V) → Type 0
KeysRise ps = Rise (keys ps)

-- a map with x at k
abbrev pub put_pair : {V : Type 0} → List ℕ → V → List (List ℕ × V) → List (List ℕ × V)
put_pair k x [] = (k, x) ∷ []
put_pair k x (p ∷ ps) =
    match_ordering (slice_cmp nat_cmp k p.0) ((k, x) ∷ p ∷ ps) ((p.0, x) ∷ ps) (p ∷ put_pair k x ps)
