-- Lists over numbers that count up, one number longer.
use Rattle.std.proofs.Common.{◌≡◌, ℕ, ◌+◌, List, [], ◌∷◌, ◌++◌, refl, sym, ◌∙◌}
use Rattle.std.proofs.lemmas.Grind.{flat_map-append}
use Rattle.std.proofs.lemmas.List.FromFn.{map-range_with_len_more}
use Rattle.std.proofs.lemmas.List.{map-id, append-nil}
use Rattle.std.specs.List.{flat_map, range_with_len}

pub range_more : (a k j : ℕ) → a + k ≡ j → range_with_len a (k + 1) ≡ range_with_len a k ++ j ∷ []
range_more a k j e =
    sym (map-id (range_with_len a (k + 1))) ∙ map-range_with_len_more (λ x. x) a k j e
    ∙ rw (map-id (range_with_len a k)) refl

pub flat_map-range_more : {X : Type 0} (f : ℕ → List X) (a k j : ℕ) → a + k ≡ j
    → flat_map f (range_with_len a (k + 1)) ≡ flat_map f (range_with_len a k) ++ f j
flat_map-range_more f a k j e =
    rw (range_more a k j e, flat_map-append f (range_with_len a k) (j ∷ []), append-nil (f j)) refl
