-- What several entries leave, one after the other.
use Rattle.std.proofs.Common.{◌≡◌, ℕ, ◌^◌, ◌≤◌, List, [], ◌∷◌, ◌++◌, length, Bool}
use Rattle.std.proofs.Common.{true, false, not, Option, Some, None, is_some, refl}
use Rattle.std.proofs.Common.{sym, ap, subst, ◌∙◌, arith, append_assoc, append-nil}
use Rattle.std.proofs.Common.{nat_lt, ◌⊎◌, inl, inr, if◌then◌else◌, MatchOption}
use Rattle.std.proofs.KnownBytes.{Appends-trans}
use Rattle.std.proofs.lemmas.Bool.{ltb-false}
use Rattle.std.specs.Io.KnownBytes.{Appends}
use Rattle.std.specs.Option.{option_map_or}
use Rattle.std.specs.Str.{bytes_eq}
use Rattle.rec_container.proofs.Lengths.{length-spell-push}
use Rattle.rec_container.proofs.Spelling.{prefix-push}
use Rattle.rec_container.specs.Container.{Entry, spell, prefix, addition, content_of}
use Rattle.rec_container.specs.declared.errors.ContainerWriteError.TheVariants as writing
use Rattle.rec_container.specs.declared.errors.ContainerWriteError.{ContainerWriteError}
use Rattle.rec_container.specs.Writing.{Writing, Adds, entry_named, refusal, has_name_length}
use Rattle.rec_store.specs.Clashes.{with_entry, with_entries}
use Rattle.rec_store.specs.declared.error.RunStoreError.TheVariants.{NameCollision, CountOutOfRange}
use Rattle.rec_store.specs.declared.error.RunStoreError.{RunStoreError}
use Rattle.rec_store.specs.Recording.{AddsEach, AddsUpTo}

-- each name is new to the entries before it
abbrev pub AreNew : List Entry → List Entry → Type 0
AreNew es [] = Unit {0}
AreNew es (f ∷ fs) = (content_of es f.name ≡ None) × AreNew (es ++ f ∷ []) fs

with_entry-new : (es : List Entry) (e : Entry) → content_of es e.name ≡ None
    → with_entry es e ≡ es ++ e ∷ []
with_entry-new es e h = ap (λ o. if is_some o then es else es ++ e ∷ []) h

pub with_entries-new : (es fs : List Entry) → AreNew es fs → with_entries es fs ≡ es ++ fs
with_entries-new es [] h = sym (append-nil es)
with_entries-new es (f ∷ fs) h =
    ap (λ l. with_entries l fs) (with_entry-new es f h.0) ∙ with_entries-new (es ++ f ∷ []) fs h.1
    ∙ append_assoc es (f ∷ []) fs

-- ---- how long the spelling gets

spell-grows_at : (es : List Entry) (e : Entry) (o : Option (List ℕ))
    → length (spell es) ≤ length (spell (if is_some o then es else es ++ e ∷ []))
spell-grows_at es e None = omega (arith, length-spell-push es e)
spell-grows_at es e (Some c) = omega arith

pub spell-grows : (es fs : List Entry) → length (spell es) ≤ length (spell (with_entries es fs))
spell-grows es [] = omega arith
spell-grows es (f ∷ fs) =
    omega (arith, spell-grows_at es f (content_of es f.name), spell-grows (with_entry es f) fs)

-- ---- refusals before memory is taken

abbrev after : List Entry → List ℕ → List ℕ → Option (List ℕ) → Option ContainerWriteError
after es name content held =
    option_map_or (λ c. if bytes_eq c content then None else Some writing.NameCollision) held
    (if nat_lt (length (spell (es ++ entry_named name content ∷ []))) (2 ^ 64) then None
    else Some writing.CountOutOfRange)

-- a name of a good length is refused for what is there, or for a sum
refusal-named : (es : List Entry) (name content : List ℕ) → has_name_length name ≡ true
    → refusal false es name content ≡ after es name content (content_of es name)
refusal-named es name content h =
    ap (λ b. if not b then Some writing.BadName else after es name content (content_of es name)) h

if_long : (n : ℕ) (b : Bool) → nat_lt n (2 ^ 64) ≡ b
    → (if b then None else Some writing.CountOutOfRange) ≡ Some writing.CountOutOfRange → 2 ^ 64 ≤ n
if_long n true is h = absurd cc
if_long n false is h = ltb-false n (2 ^ 64) is

no_sum : (b : Bool)
    → (if b then None else Some writing.NameCollision) ≡ Some writing.CountOutOfRange → ⊥
no_sum true h = cc
no_sum false h = cc

after-sum : (es : List Entry) (name content : List ℕ) (o : Option (List ℕ))
    → after es name content o ≡ Some writing.CountOutOfRange
    → (o ≡ None) × (2 ^ 64 ≤ length (spell (es ++ entry_named name content ∷ [])))
after-sum es name content None h = (refl, if_long _ _ refl h)
after-sum es name content (Some c) h = absurd (no_sum (bytes_eq c content) h)

-- what is refused for a sum is not refused for a collision
pub no_collision : (b : Bool)
    → (if b then None else Some writing.CountOutOfRange) ≡ Some writing.NameCollision → ⊥
no_collision true h = cc
no_collision false h = cc

after-collision : (es : List Entry) (name content : List ℕ) (o : Option (List ℕ)) → o ≡ None
    → after es name content o ≡ Some writing.NameCollision → ⊥
after-collision es name content None n h = no_collision _ h
after-collision es name content (Some c) n h = cc

bad_name : (es : List Entry) (name content : List ℕ) (b : Bool) (e : ContainerWriteError)
    → has_name_length name ≡ b → refusal false es name content ≡ Some e
    → (e ≡ writing.BadName) ⊎ (after es name content (content_of es name) ≡ Some e)
bad_name es name content true e is h = inr (sym (refusal-named es name content is) ∙ h)
bad_name es name content false e is h =
    let w : Some writing.BadName ≡ Some e = sym (ap
    (λ b. if not b then Some writing.BadName else after es name content (content_of es name)) is)
    ∙ h in
    inl (let k = sym w in cc)

pub refused_sum : (failed : Bool) (es : List Entry) (name content : List ℕ)
    → refusal failed es name content ≡ Some writing.CountOutOfRange
    → (content_of es name ≡ None) × (2 ^ 64 ≤ length (spell (es ++ entry_named name content ∷ [])))
refused_sum true es name content h = absurd cc
refused_sum false es name content h =
    elim (bad_name es name content (has_name_length name) writing.CountOutOfRange refl h) [
      | inl w ↦ absurd (let k = w in cc)
      | inr w ↦ after-sum es name content (content_of es name) w
    ]

pub refused_collision : (failed : Bool) (es : List Entry) (name content : List ℕ)
    → content_of es name ≡ None → refusal failed es name content ≡ Some writing.NameCollision → ⊥
refused_collision true es name content n h = cc
refused_collision false es name content n h =
    elim (bad_name es name content (has_name_length name) writing.NameCollision refl h) [
      | inl w ↦ (let k = w in cc)
      | inr w ↦ after-collision es name content (content_of es name) n w
    ]

module _ {S : Type 0} (taken : S → Option (List ℕ)) (faults : S → ℕ) where
  added_at : (old new : Writing S) (e : Entry) (o : Option (List ℕ))
      → content_of old.entries e.name ≡ o
      → MatchOption o ((new.entries ≡ old.entries ++ entry_named e.name e.content ∷ [])
      × (new.failed ≡ false) × Appends (taken old.sink) (taken new.sink)
      (addition old.entries (entry_named e.name e.content)))
      (λ c. new ≡ old)
      → new.entries ≡ with_entry old.entries e
  added_at old new e None is h =
      h.0 ∙ sym (ap (λ o. if is_some o then old.entries else old.entries ++ e ∷ []) is)
  added_at old new e (Some c) is h =
      ap (λ (w : Writing S). w.entries) h
      ∙ sym (ap (λ o. if is_some o then old.entries else old.entries ++ e ∷ []) is)

  pub added : (old new : Writing S) (e : Entry) → Adds taken faults old new e.name e.content
      → new.entries ≡ with_entry old.entries e
  added old new e h = added_at old new e (content_of old.entries e.name) refl h

  -- the entries that are there in the end
  pub entries_after : (old new : Writing S) (es : List Entry) → AddsEach taken faults old new es
      → new.entries ≡ with_entries old.entries es
  entries_after old new [] h = ap (λ (w : Writing S). w.entries) h
  entries_after old new (e ∷ es) h =
      entries_after h.0 new es h.2 ∙ ap (λ l. with_entries l es) (added old h.0 e h.1.1)

  grown_at : (start : Option (List ℕ)) (old new : Writing S) (e : Entry) (o : Option (List ℕ))
      → MatchOption o ((new.entries ≡ old.entries ++ entry_named e.name e.content ∷ [])
      × (new.failed ≡ false) × Appends (taken old.sink) (taken new.sink)
      (addition old.entries (entry_named e.name e.content)))
      (λ c. new ≡ old)
      → Appends start (taken old.sink) (prefix old.entries)
      → Appends start (taken new.sink) (prefix new.entries)
  grown_at start old new e None h p =
      subst (λ l. Appends start (taken new.sink) l)
      (sym (ap prefix h.0 ∙ prefix-push old.entries e)) (Appends-trans start (taken old.sink)
      (taken new.sink) (prefix old.entries) (addition old.entries e) p h.2)
  grown_at start old new e (Some c) h p =
      subst (λ (w : Writing S). Appends start (taken w.sink) (prefix w.entries)) (sym h) p

  -- what the sink took since it was empty
  pub taken_after : (start : Option (List ℕ)) (old new : Writing S) (es : List Entry)
      → AddsEach taken faults old new es
      → Appends start (taken old.sink) (prefix old.entries)
      → Appends start (taken new.sink) (prefix new.entries)
  taken_after start old new [] h p =
      subst (λ (w : Writing S). Appends start (taken w.sink) (prefix w.entries)) (sym h) p
  taken_after start old new (e ∷ es) h p =
      taken_after start h.0 new es h.2
      (grown_at start old h.0 e (content_of old.entries e.name) h.1.1 p)

  -- entries after entries
  pub AddsEach-append : (a b c : Writing S) (es fs : List Entry) → AddsEach taken faults a b es
      → AddsEach taken faults b c fs → AddsEach taken faults a c (es ++ fs)
  AddsEach-append a b c [] fs p q = subst (λ (w : Writing S). AddsEach taken faults w c fs) p q
  AddsEach-append a b c (e ∷ es) fs p q = (p.0, p.1, AddsEach-append p.0 b c es fs p.2 q)

  -- a sum that is refused is that of all the entries
  pub sum_refused : (old new : Writing S) (es : List Entry)
      → AddsUpTo taken faults old new es CountOutOfRange
      → 2 ^ 64 ≤ length (spell (with_entries old.entries es))
  sum_refused old new [] h = absurd h
  sum_refused old new (e ∷ es) (inl h) =
      let r = refused_sum old.failed old.entries e.name e.content h.0 in
      omega (
        arith,
        r.1,
        spell-grows (with_entry old.entries e) es,
        ap (λ l. length (spell l)) (with_entry-new old.entries e r.0),
      )
  sum_refused old new (e ∷ es) (inr h) =
      subst (λ l. 2 ^ 64 ≤ length (spell (with_entries l es))) (added old h.0 e h.1.1)
      (sum_refused h.0 new es h.2)

  -- names that are new don't collide
  pub no_collision_among : (old new : Writing S) (es : List Entry) (path : List ℕ)
      → AreNew old.entries es → AddsUpTo taken faults old new es (NameCollision path) → ⊥
  no_collision_among old new [] path n h = h
  no_collision_among old new (e ∷ es) path n (inl h) =
      refused_collision old.failed old.entries e.name e.content n.0 h.1
  no_collision_among old new (e ∷ es) path n (inr h) =
      no_collision_among h.0 new es path (subst (λ l. AreNew l es)
      (sym (added old h.0 e h.1.1 ∙ with_entry-new old.entries e n.0)) n.1)
      h.2

  sound_at : (old new : Writing S) (e : Entry) (o : Option (List ℕ))
      → MatchOption o ((new.entries ≡ old.entries ++ entry_named e.name e.content ∷ [])
      × (new.failed ≡ false) × Appends (taken old.sink) (taken new.sink)
      (addition old.entries (entry_named e.name e.content)))
      (λ c. new ≡ old)
      → old.failed ≡ false → new.failed ≡ false
  sound_at old new e None h p = h.1
  sound_at old new e (Some c) h p = ap (λ (w : Writing S). w.failed) h ∙ p

  -- a writer that added an entry has not failed
  pub sound_added : (old new : Writing S) (e : Entry) → Adds taken faults old new e.name e.content
      → old.failed ≡ false → new.failed ≡ false
  sound_added old new e h p = sound_at old new e (content_of old.entries e.name) h p

  -- nor one that added several
  pub sound_after : (old new : Writing S) (es : List Entry) → AddsEach taken faults old new es
      → old.failed ≡ false → new.failed ≡ false
  sound_after old new [] h p = ap (λ (w : Writing S). w.failed) h ∙ p
  sound_after old new (e ∷ es) h p = sound_after h.0 new es h.2 (sound_added old h.0 e h.1.1 p)

  -- a refusal among the first entries, or among those after them
  pub AddsUpTo-prefix : (old new : Writing S) (es fs : List Entry) (e : RunStoreError)
      → AddsUpTo taken faults old new es e → AddsUpTo taken faults old new (es ++ fs) e
  AddsUpTo-prefix old new [] fs e h = absurd h
  AddsUpTo-prefix old new (x ∷ xs) fs e (inl h) = inl h
  AddsUpTo-prefix old new (x ∷ xs) fs e (inr h) =
      inr (h.0, h.1, AddsUpTo-prefix h.0 new xs fs e h.2)

  pub AddsUpTo-after : (a b c : Writing S) (es fs : List Entry) (e : RunStoreError)
      → AddsEach taken faults a b es → AddsUpTo taken faults b c fs e
      → AddsUpTo taken faults a c (es ++ fs) e
  AddsUpTo-after a b c [] fs e p q = subst (λ (w : Writing S). AddsUpTo taken faults w c fs e) p q
  AddsUpTo-after a b c (x ∷ xs) fs e p q = inr (p.0, p.1, AddsUpTo-after p.0 b c xs fs e p.2 q)
