-- What is left of contents that are written one after the other.
use Rattle.std.proofs.Common.{zero, suc, ◌≡◌, ℕ, ◌+◌, ◌<◌, ◌≤◌, List, [], ◌∷◌, ◌++◌}
use Rattle.std.proofs.Common.{length, get_or, drop, map, slice_get, Some, refl, sym}
use Rattle.std.proofs.Common.{ap, ◌∙◌, subst, length-append, append_assoc, append-nil}
use Rattle.std.proofs.lemmas.Grind.{flat_map-append}
use Rattle.std.proofs.lemmas.List.{drop_more, drop_all}
use Rattle.std.specs.Int.{w64, to_be_bytes}
use Rattle.std.specs.List.{AllByRecursion, flat_map}
use Rattle.rec_container.proofs.Lengths.{length-entry}
use Rattle.rec_container.specs.Container.{AreFrom, Entry, entry, entry_head, magic, spell}
use Rattle.rec_container.specs.declared.named_contents.NamedContent.{NamedContent}
use Rattle.rec_container.specs.NamedContents.{begun, container_of, entry_of, nested, tagged_name}
use Rattle.rec_container.specs.Writing.{entry_named}

-- what stands past the end
abbrev pub nothing : NamedContent
nothing = record {
  name = record { ref_ptr = (0, 0); now = [] };
  content = record { ref_ptr = (0, 0); now = [] };
}

abbrev pub no_entry : Entry
no_entry = record { name = []; content = [] }

-- ---- of things that each give an entry

module _ {A : Type 0} (f : A → Entry) where
  -- the entries from an index on
  abbrev pub left : List A → ℕ → List ℕ
  left xs i = flat_map (λ x. entry (f x)) (drop i xs)

  pub left_more : (xs : List A) (i : ℕ) (d : A) → i < length xs
      → left xs i ≡ entry (f (get_or xs i d)) ++ left xs (i + 1)
  left_more xs i d more = ap (flat_map (λ x. entry (f x))) (drop_more xs i d more)

  pub left_none : (xs : List A) (i : ℕ) → length xs ≤ i → left xs i ≡ []
  left_none xs i none = ap (flat_map (λ x. entry (f x))) (drop_all i xs none)

  pub length-left : (xs : List A) (i : ℕ) (d : A) → i < length xs
      → length (left xs i)
      ≡ (11 + length (f (get_or xs i d)).name + length (f (get_or xs i d)).content)
      + length (left xs (i + 1))
  length-left xs i d more =
      let e = f (get_or xs i d) in
      ap length (left_more xs i d more) ∙ length-append (entry e) (left xs (i + 1))
      ∙ ap (λ n. n + length (left xs (i + 1))) (length-entry e)

  -- all of them are those of the entries that they give
  pub left_all : (xs : List A) → left xs 0 ≡ flat_map entry (map f xs)
  left_all [] = refl
  left_all (x ∷ xs) = ap (λ l. entry (f x) ++ l) (left_all xs)

  -- the next entry, and then what is left after it
  pub left_parts : (xs : List A) (i : ℕ) (d : A) (done tail all : List ℕ) → i < length xs
      → done ++ (left xs i ++ tail) ≡ all
      → all ≡ done ++ (entry (f (get_or xs i d)) ++ (left xs (i + 1) ++ tail))
  left_parts xs i d done tail all more whole =
      let next = entry (f (get_or xs i d)) in
      sym whole ∙ ap (λ l. done ++ l)
      (ap (λ l. l ++ tail) (left_more xs i d more) ∙ append_assoc next (left xs (i + 1)) tail)

  pub left_step : (xs : List A) (i : ℕ) (d : A) (done tail all : List ℕ) → i < length xs
      → done ++ (left xs i ++ tail) ≡ all
      → (done ++ entry (f (get_or xs i d))) ++ (left xs (i + 1) ++ tail) ≡ all
  left_step xs i d done tail all more whole =
      append_assoc done (entry (f (get_or xs i d))) (left xs (i + 1) ++ tail)
      ∙ sym (left_parts xs i d done tail all more whole)

  -- what comes after all alone
  pub left_end : (xs : List A) (i : ℕ) (done tail all : List ℕ) → length xs ≤ i
      → done ++ (left xs i ++ tail) ≡ all → all ≡ done ++ tail
  left_end xs i done tail all none whole =
      sym whole ∙ ap (λ l. done ++ (l ++ tail)) (left_none xs i none)

-- ---- of contents

-- what stands before an entry's content is its tagged name, and the content's length
pub head_parts : (name : List ℕ) (content : ℕ)
    → entry_head name content ≡ tagged_name name ++ to_be_bytes w64 content
unfolding entry_head
head_parts name content = simp append_assoc

-- the next one, and the others
pub all_more : (cs : List NamedContent) (i : ℕ) (d : NamedContent) → i < length cs
    → AllByRecursion (λ (c : NamedContent). length c.name.now < 65536) (drop i cs)
    → (length (get_or cs i d).name.now < 65536)
    × AllByRecursion (λ (c : NamedContent). length c.name.now < 65536) (drop (i + 1) cs)
all_more cs i d more h =
    subst (AllByRecursion (λ (c : NamedContent). length c.name.now < 65536)) (drop_more cs i d more)
    h

-- the container of all ends after the last
pub container_begun : (cs : List NamedContent) → container_of cs ≡ begun cs ++ 0 ∷ []
container_begun cs = refl

-- a container within one stands after the contents
pub nested_parts : (cs : List NamedContent) (name : List ℕ) (es : List Entry)
    → nested cs name es ≡ begun cs ++ (entry_head name (length (spell es)) ++ (spell es ++ 0 ∷ []))
nested_parts cs name es =
    let head = entry_head name (length (spell es)) in
    let inner = spell es in
    let before = flat_map entry (map entry_of cs) in
    let texts : flat_map entry (map entry_of cs ++ entry_named name inner ∷ [])
    ≡ before ++ (head ++ inner) =
    flat_map-append entry (map entry_of cs) (entry_named name inner ∷ [])
    ∙ ap (λ l. before ++ l) (append-nil (head ++ inner)) in
    ap (λ l. (magic ++ l) ++ 0 ∷ []) texts
    ∙ ap (λ l. l ++ 0 ∷ []) (sym (append_assoc magic before (head ++ inner)))
    ∙ append_assoc (begun cs) (head ++ inner) (0 ∷ [])
    ∙ ap (λ l. begun cs ++ l) (append_assoc head inner (0 ∷ []))

-- by the length that was written; and after what stands before the inner container,
-- and before the end mark
module _ (cs : List NamedContent) (name : List ℕ) (es : List Entry) (size : ℕ)
    (is : size ≡ length (spell es)) where
  pub nested_at : nested cs name es ≡ begun cs ++ (entry_head name size ++ (spell es ++ 0 ∷ []))
  nested_at =
      nested_parts cs name es
      ∙ ap (λ n. begun cs ++ (entry_head name n ++ (spell es ++ 0 ∷ []))) (sym is)

  pub nested_after : nested cs name es ≡ (begun cs ++ entry_head name size) ++ (spell es ++ 0 ∷ [])
  nested_after =
      nested_at ∙ sym (append_assoc (begun cs) (entry_head name size) (spell es ++ 0 ∷ []))

  pub nested_end : nested cs name es ≡ ((begun cs ++ entry_head name size) ++ spell es) ++ 0 ∷ []
  nested_end =
      nested_after ∙ sym (append_assoc (begun cs ++ entry_head name size) (spell es) (0 ∷ []))

-- ---- of a writer's entries

pub entry_found : (es : List Entry) (i : ℕ) (e : Entry) → slice_get es i ≡ Some e
    → get_or es i no_entry ≡ e
entry_found [] i e h = absurd cc
entry_found (d ∷ es) zero e h = cc
entry_found (d ∷ es) (suc i) e h = entry_found es i e h

-- a name among entries with spellings is short enough
pub short_name : (seen es : List Entry) (i : ℕ) (e : Entry) → AreFrom seen es
    → slice_get es i ≡ Some e → length e.name < 65536
short_name seen [] i e h at = absurd cc
short_name seen (d ∷ es) zero e h at =
    let same : d ≡ e = cc in
    subst (λ (x : Entry). length x.name < 65536) same h.0.name.short
short_name seen (d ∷ es) (suc i) e h at = short_name (seen ++ d ∷ []) es i e h.2 at
