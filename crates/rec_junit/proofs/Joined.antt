-- What a loop that joins texts has written.
use Rattle.std.proofs.Common.{◌≡◌, ℕ, ◌+◌, ◌<◌, ◌≤◌, List, [], ◌∷◌, ◌++◌, length, drop}
use Rattle.std.proofs.Common.{get_or, flat_map, sym, ◌∙◌, ap, append_assoc, append-nil}
use Rattle.std.proofs.lemmas.Grind.{flat_map-append}
use Rattle.std.proofs.lemmas.List.{drop_all, drop_more}

-- one text more, after a separator
pub joined_more : {A : Type 0} (f : A → List ℕ) (sep whole line : List ℕ) (xs : List A) (i : ℕ)
    (x : A)
    → i < length xs → x ≡ get_or xs i x
    → line ++ flat_map (λ y. sep ++ f y) (drop i xs) ≡ whole
    → ((line ++ sep) ++ f x) ++ flat_map (λ y. sep ++ f y) (drop (i + 1) xs) ≡ whole
joined_more f sep whole line xs i x below here is =
    let rest = flat_map (λ y. sep ++ f y) (drop (i + 1) xs) in
    append_assoc (line ++ sep) (f x) rest ∙ append_assoc line sep (f x ++ rest)
    ∙ ap (λ l. line ++ l) (sym (append_assoc sep (f x) rest))
    ∙ ap (λ ys. line ++ flat_map (λ y. sep ++ f y) ys)
    (sym (drop_more xs i x below ∙ ap (λ y. y ∷ drop (i + 1) xs) (sym here)))
    ∙ is

-- no text is left
pub joined_all : {A : Type 0} (f : A → List ℕ) (sep whole line : List ℕ) (xs : List A) (i : ℕ)
    → length xs ≤ i
    → line ++ flat_map (λ y. sep ++ f y) (drop i xs) ≡ whole → line ≡ whole
joined_all f sep whole line xs i end is =
    sym (append-nil line)
    ∙ ap (λ ys. line ++ flat_map (λ y. sep ++ f y) ys) (sym (drop_all i xs end)) ∙ is

-- what one item more gives
pub flat_more : {A : Type 0} (f : A → List ℕ) (start : List ℕ) {line now : List ℕ} (xs : List A)
    (x : A)
    → line ≡ start ++ flat_map f xs → now ≡ line ++ f x
    → now ≡ start ++ flat_map f (xs ++ (x ∷ []))
flat_more f start xs x is more =
    more ∙ ap (λ l. l ++ f x) is ∙ append_assoc start (flat_map f xs) (f x) ∙ ap (λ ys. start ++ ys)
    (sym (flat_map-append f xs (x ∷ []) ∙ ap (λ ys. flat_map f xs ++ ys) (append-nil (f x))))
