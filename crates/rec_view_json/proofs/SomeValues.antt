-- A list of those items that have a value, written in a loop.
use Rattle.std.proofs.Common.{◌≡◌, ℕ, ◌+◌, ◌<◌, ◌≤◌, List, ◌∷◌, length, drop, get_or, filter_map}
use Rattle.std.proofs.Common.{Option, Some, None, option_to_list, refl, sym, ap, ◌∙◌}
use Rattle.std.proofs.lemmas.List.{drop_all, drop_more}
use Rattle.std.specs.List.{cons_option}
use Rattle.json.specs.Token.{Token}
use Rattle.serde_json.specs.Data.{Data}
use Rattle.rec_json.specs.Tokens.{with_items}

one_more : (ts : List Token) (o : Option Data) (ds : List Data)
    → with_items (with_items ts (option_to_list o)) ds ≡ with_items ts (cons_option o ds)
one_more ts None ds = refl
one_more ts (Some d) ds = refl

module _ {T : Type 0} (value : T → Option Data) where
  -- an item is taken off what is left
  pub some_written : (ts : List Token) (xs : List T) (i : ℕ) (x : T) → i < length xs
      → x ≡ get_or xs i x
      → with_items (with_items ts (option_to_list (value x))) (filter_map value (drop (i + 1) xs))
      ≡ with_items ts (filter_map value (drop i xs))
  some_written ts xs i x within is =
      let next : drop i xs ≡ x ∷ drop (i + 1) xs =
      drop_more xs i x within ∙ ap (λ y. y ∷ drop (i + 1) xs) (sym is) in
      one_more ts (value x) (filter_map value (drop (i + 1) xs))
      ∙ ap (λ ys. with_items ts (filter_map value ys)) (sym next)

  -- after the last item nothing is left
  pub all_some_written : (ts : List Token) (xs : List T) (i : ℕ) → length xs ≤ i
      → with_items ts (filter_map value (drop i xs)) ≡ ts
  all_some_written ts xs i past =
      ap (λ ys. with_items ts (filter_map value ys)) (drop_all i xs past)
