-- The index of entries by their names, as entries are added.
use Rattle.std.proofs.Common.{◌≡◌, ℕ, ◌+◌, length-append, arith, Bool, true, false, cond, List}
use Rattle.std.proofs.Common.{[], ◌∷◌, ◌++◌, Option, Some, None, Bor, refl, ap, sym, subst, ◌∙◌}
use Rattle.std.proofs.lemmas.List.{map-append}
use Rattle.std.proofs.lemmas.Map.Text.{btree_map_updates_str}
use Rattle.std.proofs.lemmas.Slice.Eq.{bytes_eq-Decides}
use Rattle.std.specs.BTreeMap.{BTreeMap, UpdatesBy, btree_map_len}
use Rattle.std.specs.Map.{lookup}
use Rattle.std.specs.Option.{option_map}
use Rattle.std.specs.Str.{bytes_eq}
use Rattle.rec_container.proofs.Contents.{content_of-push}
use Rattle.rec_container.specs.Container.{Entry, content_of}
use Rattle.rec_container.specs.declared.indexed.PlacedEntry.{PlacedEntry}
use Rattle.rec_container.specs.Placed.{placed_entry, placed_entries}
use Rattle.rec_container.specs.Sorted.{Contents, HasContents, is_named, name_cmp}

not_both : (b : Bool) → b ≡ true → b ≡ false → ⊥
not_both b holds fails = cc

pub apart : (xs ys : List ℕ) → bytes_eq xs ys ≡ false → bytes_eq ys xs ≡ false
apart xs ys h = by (bytes_eq ys xs) refl
  where
    by : (b : Bool) → bytes_eq ys xs ≡ b → bytes_eq ys xs ≡ false
    by true e =
        absurd (not_both (bytes_eq xs ys)
        ((bytes_eq-Decides xs ys).1 (sym ((bytes_eq-Decides ys xs).0 e))) h)
    by false e = e

-- another name finds what it found
content_of-other : (es : List Entry) (e : Entry) (name : List ℕ) → bytes_eq name e.name ≡ false
    → content_of (es ++ e ∷ []) name ≡ content_of es name
content_of-other [] e name h = ap (λ b. cond b (Some e.content) None) h
content_of-other (d ∷ es) e name h =
    ap (λ o. cond (bytes_eq name d.name) (Some d.content) o) (content_of-other es e name h)

-- what any name finds after an entry of a new name
content_of-last : (es : List Entry) (e : Entry) (name : List ℕ) (b : Bool)
    → bytes_eq e.name name ≡ b → content_of es e.name ≡ None
    → cond b (Some e.content) (content_of es name) ≡ content_of (es ++ e ∷ []) name
content_of-last es e name true h absent =
    subst (λ (n : List ℕ). Some e.content ≡ content_of (es ++ e ∷ []) n)
    ((bytes_eq-Decides e.name name).0 h) (sym (content_of-push es e.name e.content absent))
content_of-last es e name false h absent = sym (content_of-other es e name (apart e.name name h))

shown : (b : Bool) (content : Bor (List ℕ)) (o : Option (Bor (List ℕ)))
    → option_map (λ (c : Bor (List ℕ)). c.now) (cond b (Some content) o)
    ≡ cond b (Some content.now) (option_map (λ (c : Bor (List ℕ)). c.now) o)
shown true content o = refl
shown false content o = refl

found-push : (old new : BTreeMap (Bor (List ℕ)) (Bor (List ℕ))) (hs : List PlacedEntry)
    (h : PlacedEntry)
    → HasContents old.entries hs → content_of (placed_entries hs) h.name.now ≡ None
    → UpdatesBy name_cmp (name_cmp h.name) old new (Some h.content) → (name : List ℕ)
    → option_map (λ (c : Bor (List ℕ)). c.now) (lookup (is_named name) new.entries)
    ≡ content_of (placed_entries (hs ++ h ∷ [])) name
found-push old new hs h is absent updates name =
    let found = λ (o : Option (Bor (List ℕ))). option_map (λ (c : Bor (List ℕ)). c.now) o in
    let b = bytes_eq h.name.now name in
    ap found (btree_map_updates_str h.name.now old new (Some h.content) updates name)
    ∙ shown b h.content (lookup (is_named name) old.entries)
    ∙ ap (cond b (Some h.content.now)) (is.found name)
    ∙ content_of-last (placed_entries hs) (placed_entry h) name b refl absent
    ∙ ap (λ es. content_of es name) (sym (map-append placed_entry hs (h ∷ [])))

-- a new name has no content so far
pub absent-from : (contents : Contents) (hs : List PlacedEntry) (name : List ℕ)
    → HasContents contents hs → content_of (placed_entries hs) name ≡ None
    → lookup (is_named name) contents ≡ None
absent-from contents hs name is absent =
    none (lookup (is_named name) contents) (is.found name ∙ absent)
  where
    none : (o : Option (Bor (List ℕ))) → option_map (λ (c : Bor (List ℕ)). c.now) o ≡ None
        → o ≡ None
    none None h = refl
    none (Some c) h = absurd (let k = h in cc)

pub HasContents-push : (old new : BTreeMap (Bor (List ℕ)) (Bor (List ℕ))) (hs gs : List PlacedEntry)
    (h : PlacedEntry)
    → HasContents old.entries hs → content_of (placed_entries hs) h.name.now ≡ None
    → UpdatesBy name_cmp (name_cmp h.name) old new (Some h.content)
    → btree_map_len new ≡ btree_map_len old + 1 → gs ≡ hs ++ h ∷ [] → HasContents new.entries gs
HasContents-push old new hs gs h is absent updates longer same =
    subst (HasContents new.entries) (sym same) (record {
      found = found-push old new hs h is absent updates;
      count = omega (arith, longer, is.count, length-append hs (h ∷ []));
    })
