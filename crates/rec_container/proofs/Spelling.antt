-- Entries, one after the other.
use Rattle.std.proofs.Common.{zero, suc, ◌≡◌, ℕ, ◌+◌, List, [], ◌∷◌, ◌++◌, length, take}
use Rattle.std.proofs.Common.{map, slice_get, ◌≤◌, None, Some, refl, sym, ap, subst}
use Rattle.std.proofs.Common.{◌∙◌, append_assoc, append-nil, arith, length-append}
use Rattle.std.proofs.KnownBytes.{Appends-trans}
use Rattle.std.proofs.lemmas.Grind.{flat_map-append}
use Rattle.std.proofs.lemmas.List.{take_at, drop_at}
use Rattle.std.specs.declared.option.Option.{Option}
use Rattle.std.specs.Io.KnownBytes.{Appends}
use Rattle.std.specs.List.{flat_map}
use Rattle.rec_container.proofs.Lengths.{length-entry, length-entry_head, length-magic}
use Rattle.rec_container.specs.Container.{Entry, entry, entry_head, magic, spell, prefix}
use Rattle.rec_container.specs.Container.{addition, ending, content_of, IsEntry, AreFrom}
use Rattle.rec_container.specs.Container.{IsContainer, StandsAt, StandsWithin, place_from}

-- one more entry
pub AreFrom-push : (seen es : List Entry) (e : Entry) → AreFrom seen es → IsEntry e
    → content_of (seen ++ es) e.name ≡ None → AreFrom seen (es ++ e ∷ [])
AreFrom-push seen [] e h is new =
    (is, ap (λ l. content_of l e.name) (sym (append-nil seen)) ∙ new, tt)
AreFrom-push seen (d ∷ es) e h is new = (
  h.0,
  h.1,
  AreFrom-push (seen ++ d ∷ []) es e h.2 is
      (ap (λ l. content_of l e.name) (append_assoc seen (d ∷ []) es) ∙ new),
)

-- entries with a spelling are a container by it
pub IsContainer-spell : (es : List Entry) → AreFrom [] es → IsContainer (spell es) es
IsContainer-spell es h = record { spelled = refl; entries = h }

-- what was taken so far, and what one more entry adds
pub prefix-push : (es : List Entry) (e : Entry) → prefix (es ++ e ∷ []) ≡ prefix es ++ addition es e
prefix-push [] e = ap (λ l. magic ++ l) (append-nil (entry e))
prefix-push (d ∷ es) e =
    ap (λ l. magic ++ l) (flat_map-append entry (d ∷ es) (e ∷ [])
    ∙ ap (λ l. flat_map entry (d ∷ es) ++ l) (append-nil (entry e)))
    ∙ sym (append_assoc magic (flat_map entry (d ∷ es)) (entry e))

-- and the end
pub prefix-ending : (es : List Entry) → prefix es ++ ending es ≡ spell es
prefix-ending [] = ap (λ l. l ++ 0 ∷ []) (sym (append-nil magic))
prefix-ending (d ∷ es) = refl

-- since some start, a sink took the prefix of the entries, and then one more entry
pub Appends-push : (start before now : Option (List ℕ)) (es fs : List Entry) (e : Entry)
    → Appends start before (prefix es) → Appends before now (addition es e) → fs ≡ es ++ e ∷ []
    → Appends start now (prefix fs)
Appends-push start before now es fs e so_far added same =
    subst (Appends start now) (sym (prefix-push es e) ∙ ap prefix (sym same))
    (Appends-trans start before now (prefix es) (addition es e) so_far added)

-- and then the end
pub Appends-ending : (start before now : Option (List ℕ)) (es : List Entry)
    → Appends start before (prefix es) → Appends before now (ending es)
    → Appends start now (spell es)
Appends-ending start before now es so_far added =
    subst (Appends start now) (prefix-ending es)
    (Appends-trans start before now (prefix es) (ending es) so_far added)

-- a part between others
StandsAt-between : (before part after : List ℕ) (place : ℕ) → length before ≡ place
    → StandsAt (before ++ (part ++ after)) place part
StandsAt-between before part after place e =
    ap (take (length part)) (drop_at before (part ++ after) place e)
    ∙ take_at part after (length part) refl

-- the contents of entries that begin after some bytes
stands_from : (before : List ℕ) (es : List Entry) (after : List ℕ) (i : ℕ) (content : List ℕ)
    (p : ℕ)
    → length before ≡ p → slice_get (map (λ (e : Entry). e.content) es) i ≡ Some content
    → StandsAt (before ++ (flat_map entry es ++ after)) (place_from p es i) content
stands_from before [] after i content p size h = absurd cc
stands_from before (e ∷ es) after zero content p size h =
    let head = entry_head e.name (length e.content) in
    let more = flat_map entry es ++ after in
    let parts : before ++ ((entry e ++ flat_map entry es) ++ after)
    ≡ (before ++ head) ++ (e.content ++ more) =
    simp append_assoc in
    let same : e.content ≡ content = cc in
    let place : length (before ++ head) ≡ p + 11 + length e.name =
    omega (arith, length-append before head, length-entry_head e.name (length e.content), size) in
    subst (λ (c : List ℕ).
    StandsAt (before ++ ((entry e ++ flat_map entry es) ++ after)) (p + 11 + length e.name) c)
    same
    (subst (λ (l : List ℕ). StandsAt l (p + 11 + length e.name) e.content) (sym parts)
    (StandsAt-between (before ++ head) e.content more (p + 11 + length e.name) place))
stands_from before (e ∷ es) after (suc i) content p size h =
    let next = p + (11 + length e.name + length e.content) in
    let parts : before ++ ((entry e ++ flat_map entry es) ++ after)
    ≡ (before ++ entry e) ++ (flat_map entry es ++ after) =
    ap (λ l. before ++ l) (append_assoc (entry e) (flat_map entry es) after)
    ∙ sym (append_assoc before (entry e) (flat_map entry es ++ after)) in
    let longer : length (before ++ entry e) ≡ next =
    omega (arith, length-append before (entry e), length-entry e, size) in
    subst (λ (l : List ℕ). StandsAt l (place_from next es i) content) (sym parts)
    (stands_from (before ++ entry e) es after i content next longer h)

-- and end before what follows these
ends_from : (p : ℕ) (es : List Entry) (i : ℕ) (content : List ℕ)
    → slice_get (map (λ (e : Entry). e.content) es) i ≡ Some content
    → place_from p es i + length content ≤ p + length (flat_map entry es)
ends_from p [] i content h = absurd cc
ends_from p (e ∷ es) zero content h =
    let same : e.content ≡ content = cc in
    omega (arith, ap length same, length-append (entry e) (flat_map entry es), length-entry e)
ends_from p (e ∷ es) (suc i) content h =
    omega (
      arith,
      ends_from (p + (11 + length e.name + length e.content)) es i content h,
      length-append (entry e) (flat_map entry es),
      length-entry e,
    )

-- the content of an entry stands in bytes that begin with the entries
pub content_stands : (es : List Entry) (rest : List ℕ) (i : ℕ) (content : List ℕ)
    → slice_get (map (λ (e : Entry). e.content) es) i ≡ Some content
    → StandsWithin (magic ++ flat_map entry es ++ rest) (place_from 8 es i) content
content_stands es rest i content h =
    record {
      stands =
          subst (λ (l : List ℕ). StandsAt l (place_from 8 es i) content)
          (sym (append_assoc magic (flat_map entry es) rest))
          (stands_from magic es rest i content 8 length-magic h);
      within =
          omega (
            arith,
            ends_from 8 es i content h,
            length-magic,
            length-append magic (flat_map entry es),
            length-append (magic ++ flat_map entry es) rest,
          );
    }

pub place_from-stands : (es : List Entry) (i : ℕ) (content : List ℕ)
    → slice_get (map (λ (e : Entry). e.content) es) i ≡ Some content
    → StandsWithin (spell es) (place_from 8 es i) content
place_from-stands es i content h = content_stands es (0 ∷ []) i content h
