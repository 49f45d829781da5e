-- The sizes of entries, one after the other.
use Rattle.std.proofs.Common.{zero, suc, ◌≡◌, ℕ, ◌+◌, List, [], ◌∷◌, drop, map}
use Rattle.std.proofs.Common.{slice_get, Option, Some, None, refl, ap, sym, ◌∙◌, add-one}
use Rattle.std.specs.Option.{option_or}
use Rattle.rec_container.specs.Container.{Entry}
use Rattle.rec_container.specs.Writing.{entry_named}
use Rattle.rec_store.specs.declared.sizes_judged.TooLarge.{TooLarge}
use Rattle.rec_store.specs.SizesJudged.{first_too_large, too_large}

-- the entry at an index, and those after it
entry_at : (es : List Entry) (i : ℕ) (name content : List ℕ)
    → slice_get (map (λ (e : Entry). e.name) es) i ≡ Some name
    → slice_get (map (λ (e : Entry). e.content) es) i ≡ Some content
    → drop i es ≡ entry_named name content ∷ drop (suc i) es
entry_at [] i name content n c = absurd (let none = n in cc)
entry_at (e ∷ es) zero name content n c =
    let same_name : e.name ≡ name = cc in
    let same_content : e.content ≡ content = cc in
    ap (λ l. entry_named l e.content ∷ es) same_name
    ∙ ap (λ l. entry_named name l ∷ es) same_content
entry_at (e ∷ es) (suc i) name content n c = entry_at es i name content n c

module _ (limit : ℕ) (es : List Entry) (i : ℕ) (name content : List ℕ)
    (has_name : slice_get (map (λ (e : Entry). e.name) es) i ≡ Some name)
    (has_content : slice_get (map (λ (e : Entry). e.content) es) i ≡ Some content)
    (before : first_too_large limit (drop i es) ≡ first_too_large limit es) where
  here : first_too_large limit es ≡ option_or (too_large limit (entry_named name content))
      (first_too_large limit (drop (i + 1) es))
  here =
      sym before ∙ ap (first_too_large limit) (entry_at es i name content has_name has_content)
      ∙ ap (λ n.
      option_or (too_large limit (entry_named name content)) (first_too_large limit (drop n es)))
      (sym (add-one i))

  -- an entry that is too large is the first
  pub found_at : (e : TooLarge) → Some e ≡ too_large limit (entry_named name content)
      → Some e ≡ first_too_large limit es
  found_at e h =
      sym (here ∙ ap (λ o. option_or o (first_too_large limit (drop (i + 1) es))) (sym h))

  -- after one that isn't, the rest decides
  pub passed_at : (found : Option TooLarge) → ((e : TooLarge) → found ≡ Some e → ⊥)
      → found ≡ too_large limit (entry_named name content)
      → first_too_large limit (drop (i + 1) es) ≡ first_too_large limit es
  passed_at None none h =
      sym (here ∙ ap (λ o. option_or o (first_too_large limit (drop (i + 1) es))) (sym h))
  passed_at (Some e) none h = absurd (none e refl)
