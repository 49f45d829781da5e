-- The last item of a chain of iterators.
use Rattle.std.proofs.Common.{◌≡◌, List, [], ◌∷◌, map, Option, Some}
use Rattle.std.proofs.Common.{None, option_map, refl, ap, ◌∙◌}
use Rattle.std.proofs.lemmas.Iterator.{YieldsList, items_from_drains}
use Rattle.std.specs.Iterator.{Drains}
use Rattle.std.specs.List.{last_or}

option_map-last_or : {A B : Type 0} (v : A → B) (found : Option A) (xs : List A)
    → option_map v (last_or found xs) ≡ last_or (option_map v found) (map v xs)
option_map-last_or v found [] = refl
option_map-last_or v found (x ∷ xs) = option_map-last_or v (Some x) xs

-- the clause `ran` of `last`
pub last_from_yields_List : {S A B : Type 0} {steps : S → Option A → S → Type 0} {v : A → B} {s : S}
    {all : List B} (r : Option A)
    → ((xs : List A) × Drains steps s xs × (r ≡ last_or None xs)) → YieldsList steps v s all
    → option_map v r ≡ last_or None all
last_from_yields_List {v = v} r ran chain =
    let u = ran.1 in
    ap (option_map v) ran.2 ∙ option_map-last_or v None ran.0
    ∙ ap (last_or None) (items_from_drains ran.0 (u.1.0, u.1.1, λ _. (u.0, u.1.2)) chain)
