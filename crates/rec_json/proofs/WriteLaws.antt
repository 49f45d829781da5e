-- What is written for an object or a list are its tokens,
-- and the tokens of a value print its compact text.
use Rattle.std.proofs.Common.{sym, ap, ◌∙◌, append_assoc, drop, get_or, length, map, ◌+◌, ◌<◌, ◌≤◌}
use Rattle.std.proofs.lemmas.List.{drop_all, drop_more}
use Rattle.std.specs.Prelude.{◌≡◌, ℕ, List, [], ◌∷◌, ◌++◌, Option, Some, None, refl}
use Rattle.json.specs.Print.{print}
use Rattle.json.specs.Token.{Token, key, begin_array, begin_object, end_array, end_object}
use Rattle.json.specs.Tree.{items_tokens, members_tokens}
use Rattle.serde_json.proofs.Texts.{print-outline}
use Rattle.serde_json.specs.Data.{Data, array}
use Rattle.serde_json.specs.View.{items_of}
use Rattle.serde_json.specs.Written.{compact_text, items_outline, members_outline}
use Rattle.rec_json.proofs.FieldOrder.{in_order-keys, plain_with, plain, plain-in_order}
use Rattle.rec_json.specs.Fields.{Field, KeysAscend, in_order, struct, tagged}
use Rattle.rec_json.specs.Tokens.{value_tokens, with_field, with_fields, with_items}

-- what is printed for the tokens of a value
pub print_value : (d : Data) → print (value_tokens d) ≡ compact_text d
unfolding value_tokens
print_value d = print-outline d

-- ---- objects

tokens_with : (ts : List Token) (k : List ℕ) (o : Option Data) (gs : List Field)
    → ((us : List Token)
    → with_fields us gs ++ end_object ∷ [] ≡ us ++ members_tokens (members_outline (plain gs)))
    → with_fields (with_field k o ts) gs ++ end_object ∷ []
    ≡ ts ++ members_tokens (members_outline (plain_with k o (plain gs)))
unfolding value_tokens
tokens_with ts k None gs rest = rest ts
tokens_with ts k (Some d) gs rest =
    rest ((ts ++ key k ∷ []) ++ value_tokens d) ∙ append_assoc (ts ++ key k ∷ []) (value_tokens d) _
    ∙ append_assoc ts (key k ∷ []) _

fields_tokens : (gs : List Field) (ts : List Token)
    → with_fields ts gs ++ end_object ∷ [] ≡ ts ++ members_tokens (members_outline (plain gs))
fields_tokens [] ts = refl
fields_tokens (g ∷ gs) ts = tokens_with ts g.0 g.1 gs (fields_tokens gs)

-- an object is written by its brackets and its fields in the order of their keys
pub struct_tokens : (ts : List Token) (fs : List Field)
    → with_fields (ts ++ begin_object ∷ []) (in_order fs) ++ end_object ∷ []
    ≡ ts ++ value_tokens (struct fs)
unfolding value_tokens
struct_tokens ts fs =
    fields_tokens (in_order fs) (ts ++ begin_object ∷ [])
    ∙ ap (λ ms. (ts ++ begin_object ∷ []) ++ members_tokens (members_outline ms))
    (plain-in_order fs)
    ∙ append_assoc ts (begin_object ∷ []) _

-- where the keys ascend already, by its fields as they stand
pub map_tokens : (ts : List Token) (fs : List Field) → KeysAscend fs
    → with_fields (ts ++ begin_object ∷ []) fs ++ end_object ∷ [] ≡ ts ++ value_tokens (struct fs)
map_tokens ts fs h =
    ap (λ gs. with_fields (ts ++ begin_object ∷ []) gs ++ end_object ∷ [])
    (sym (in_order-keys fs h))
    ∙ struct_tokens ts fs

-- an object with one member
pub tagged_tokens : (ts : List Token) (k : List ℕ) (d : Data)
    → with_field k (Some d) (ts ++ begin_object ∷ []) ++ end_object ∷ []
    ≡ ts ++ value_tokens (tagged k d)
unfolding value_tokens
tagged_tokens ts k d =
    append_assoc ((ts ++ begin_object ∷ []) ++ key k ∷ []) (value_tokens d) _
    ∙ append_assoc (ts ++ begin_object ∷ []) (key k ∷ []) _ ∙ append_assoc ts (begin_object ∷ []) _

-- ---- lists

closed_items : (ts : List Token) (ds : List Data)
    → with_items ts ds ++ end_array ∷ [] ≡ ts ++ items_tokens (items_outline (items_of ds))
unfolding value_tokens
closed_items ts [] = refl
closed_items ts (d ∷ ds) =
    closed_items (ts ++ value_tokens d) ds ∙ append_assoc ts (value_tokens d) _

-- a list is written by its brackets and its items
pub list_tokens : (ts : List Token) (ds : List Data)
    → with_items (ts ++ begin_array ∷ []) ds ++ end_array ∷ []
    ≡ ts ++ value_tokens (array (items_of ds))
unfolding value_tokens
list_tokens ts ds = closed_items (ts ++ begin_array ∷ []) ds ∙ append_assoc ts (begin_array ∷ []) _

-- ---- lists that are written in a loop

module _ {T : Type 0} (value : T → Data) where
  -- a written item is taken off what is left
  pub item_written : (ts : List Token) (xs : List T) (i : ℕ) (x : T) → i < length xs
      → x ≡ get_or xs i x
      → with_items (ts ++ value_tokens (value x)) (map value (drop (i + 1) xs))
      ≡ with_items ts (map value (drop i xs))
  item_written ts xs i x within is =
      let next : drop i xs ≡ x ∷ drop (i + 1) xs =
      drop_more xs i x within ∙ ap (λ y. y ∷ drop (i + 1) xs) (sym is) in
      ap (λ ys. with_items ts (map value ys)) (sym next)

  -- after the last item nothing is left
  pub items_written : (ts : List Token) (xs : List T) (i : ℕ) → length xs ≤ i
      → with_items ts (map value (drop i xs)) ≡ ts
  items_written ts xs i past = ap (λ ys. with_items ts (map value ys)) (drop_all i xs past)
