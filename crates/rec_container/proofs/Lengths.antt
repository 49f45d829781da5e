-- How long spellings are.
use Rattle.std.proofs.Common.{◌≡◌, ℕ, ◌+◌, ◌*◌, ◌<◌, ◌≤◌, List, [], ◌∷◌, ◌++◌}
use Rattle.std.proofs.Common.{length, refl, ap, ◌∙◌, arith, length-append}
use Rattle.std.proofs.lemmas.Grind.{flat_map-append}
use Rattle.std.proofs.lemmas.List.Sums.{sum_by-append, sum_by-cons}
use Rattle.std.specs.List.{flat_map}
use Rattle.rec_container.specs.Container.{Entry, spell, entry, entry_head, magic, content_bytes}

pub length-magic : length magic ≡ 8
unfolding magic
length-magic = refl

pub length-entry_head : (name : List ℕ) (content : ℕ)
    → length (entry_head name content) ≡ 11 + length name
unfolding entry_head
length-entry_head name content = grind (arith, length-append)

-- an entry is this long
pub length-entry : (e : Entry) → length (entry e) ≡ 11 + length e.name + length e.content
length-entry e = omega (
  arith,
  length-entry_head e.name (length e.content),
  length-append (entry_head e.name (length e.content)) e.content,
)

-- beside the entries, the magic and the end mark
pub length-spell : (es : List Entry) → length (spell es) ≡ 9 + length (flat_map entry es)
length-spell es = omega (
  arith,
  length-append (magic ++ flat_map entry es) (0 ∷ []),
  length-append magic (flat_map entry es),
  length-magic,
)

pub length-spell-nil : length (spell []) ≡ 9
length-spell-nil = length-spell []

-- more entries make it longer
pub length-spell-append : (es fs : List Entry)
    → length (spell (es ++ fs)) ≡ length (spell es) + length (flat_map entry fs)
length-spell-append es fs =
    omega (
      arith,
      length-spell es,
      length-spell (es ++ fs),
      ap length (flat_map-append entry es fs),
      length-append (flat_map entry es) (flat_map entry fs),
    )

pub length-spell-push : (es : List Entry) (e : Entry)
    → length (spell (es ++ e ∷ [])) ≡ length (spell es) + (11 + length e.name + length e.content)
length-spell-push es e =
    omega (arith, length-spell-append es (e ∷ []), length-append (entry e) [], length-entry e)

pub content_bytes-push : (es : List Entry) (e : Entry)
    → content_bytes (es ++ e ∷ []) ≡ content_bytes es + length e.content
content_bytes-push es e = sum_by-append (λ d. length d.content) es (e ∷ []) ∙ omega arith

-- each entry has 11 bytes beside its name and content
pub length-entries : (es : List Entry)
    → content_bytes es + 11 * length es ≤ length (flat_map entry es)
length-entries [] = omega arith
length-entries (e ∷ es) =
    omega (
      arith,
      sum_by-cons (λ (d : Entry). length d.content) e es,
      length-entries es,
      length-append (entry e) (flat_map entry es),
      length-entry e,
    )

pub content_bytes-below : (es : List Entry) → content_bytes es < length (spell es)
content_bytes-below es = omega (arith, length-spell es, length-entries es)

pub length-below : (es : List Entry) → length es < length (spell es)
length-below es = omega (arith, length-spell es, length-entries es)
