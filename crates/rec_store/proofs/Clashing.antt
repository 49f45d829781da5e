-- Which outputs clash, by what adding them came to.
use Rattle.std.proofs.Common.{◌≡◌, ℕ, List, [], ◌∷◌, Bool, true, false, not, Option}
use Rattle.std.proofs.Common.{Some, None, refl, sym, ap, ◌∙◌, inl, inr, if◌then◌else◌}
use Rattle.std.specs.Option.{option_map_or}
use Rattle.std.specs.Str.{bytes_eq}
use Rattle.rec_container.specs.Container.{Entry, content_of}
use Rattle.rec_container.specs.declared.errors.ContainerWriteError.TheVariants as writing
use Rattle.rec_container.specs.declared.errors.ContainerWriteError.{ContainerWriteError}
use Rattle.rec_container.specs.Writing.{Writing, refusal, has_name_length}
use Rattle.rec_store.proofs.Adding.{added, entries_after, no_collision, sound_added}
use Rattle.rec_store.specs.Clashes.{with_entry, with_entries, differs, clash}
use Rattle.rec_store.specs.declared.error.RunStoreError.TheVariants.{NameCollision}
use Rattle.rec_store.specs.Recording.{AddsEntry, AddsEach, AddsUpTo}
use Rattle.rec_store.specs.Stopping.{Stops}

-- ---- one entry: what a refusal says of the content that is there

equal_accepted : (b : Bool) → (if b then None else Some writing.NameCollision) ≡ None
    → not b ≡ false
equal_accepted true h = refl
equal_accepted false h = absurd (let k = h in cc)

equal_collides : (b : Bool)
    → (if b then None else Some writing.NameCollision) ≡ Some writing.NameCollision → not b ≡ true
equal_collides true h = absurd (let k = h in cc)
equal_collides false h = refl

held_accepted : (held : Option (List ℕ)) (content : List ℕ) (room : Option ContainerWriteError)
    → option_map_or (λ c. if bytes_eq c content then None else Some writing.NameCollision) held room
    ≡ None
    → differs held content ≡ false
held_accepted None content room h = refl
held_accepted (Some c) content room h = equal_accepted (bytes_eq c content) h

held_collides : (held : Option (List ℕ)) (content : List ℕ) (fits : Bool)
    → option_map_or (λ c. if bytes_eq c content then None else Some writing.NameCollision) held
    (if fits then None else Some writing.CountOutOfRange)
    ≡ Some writing.NameCollision
    → differs held content ≡ true
held_collides None content fits h = absurd (no_collision fits h)
held_collides (Some c) content fits h = equal_collides (bytes_eq c content) h

pub name_accepted : (b : Bool) (x : Option ContainerWriteError)
    → (if not b then Some writing.BadName else x) ≡ None → x ≡ None
name_accepted true x h = h
name_accepted false x h = absurd (let k = h in cc)

name_collides : (b : Bool) (x : Option ContainerWriteError)
    → (if not b then Some writing.BadName else x) ≡ Some writing.NameCollision
    → x ≡ Some writing.NameCollision
name_collides true x h = h
name_collides false x h = absurd (let k = h in cc)

differs_accepted : (failed : Bool) (es : List Entry) (name content : List ℕ) → failed ≡ false
    → refusal failed es name content ≡ None → differs (content_of es name) content ≡ false
differs_accepted true es name content sound h = absurd (let k = sound in cc)
differs_accepted false es name content sound h =
    held_accepted (content_of es name) content _ (name_accepted (has_name_length name) _ h)

differs_collides : (failed : Bool) (es : List Entry) (name content : List ℕ) → failed ≡ false
    → refusal failed es name content ≡ Some writing.NameCollision
    → differs (content_of es name) content ≡ true
differs_collides true es name content sound h = absurd (let k = sound in cc)
differs_collides false es name content sound h =
    held_collides (content_of es name) content _ (name_collides (has_name_length name) _ h)

-- ---- several

clash-next : (es : List Entry) (f : Entry) (fs : List Entry)
    → differs (content_of es f.name) f.content ≡ false
    → clash es (f ∷ fs) ≡ clash (with_entry es f) fs
clash-next es f fs h = ap (λ b. if b then Some f.name else clash (with_entry es f) fs) h

clash-here : (es : List Entry) (f : Entry) (fs : List Entry)
    → differs (content_of es f.name) f.content ≡ true → clash es (f ∷ fs) ≡ Some f.name
clash-here es f fs h = ap (λ b. if b then Some f.name else clash (with_entry es f) fs) h

module _ {S : Type 0} (taken : S → Option (List ℕ)) (faults : S → ℕ) where
  -- after an entry that was added the rest clashes as it does after what stands then
  clash-added : (old mid : Writing S) (f : Entry) (fs : List Entry) → old.failed ≡ false
      → AddsEntry taken faults old mid f → clash old.entries (f ∷ fs) ≡ clash mid.entries fs
  clash-added old mid f fs sound h =
      clash-next old.entries f fs
      (differs_accepted old.failed old.entries f.name f.content sound h.0)
      ∙ ap (λ es. clash es fs) (sym (added taken faults old mid f h.1))

  added_none : (old new : Writing S) (fs : List Entry) → old.failed ≡ false
      → AddsEach taken faults old new fs → clash old.entries fs ≡ None
  added_none old new [] sound h = refl
  added_none old new (f ∷ fs) sound h =
      clash-added old h.0 f fs sound h.1
      ∙ added_none h.0 new fs (sound_added taken faults old h.0 f h.1.1 sound) h.2

  -- entries that were all added clash nowhere, and these stand then
  pub clash_none : (old new : Writing S) (fs : List Entry) → old.failed ≡ false
      → AddsEach taken faults old new fs
      → (clash old.entries fs ≡ None) × (new.entries ≡ with_entries old.entries fs)
  clash_none old new fs sound h =
      (added_none old new fs sound h, entries_after taken faults old new fs h)

  stopped_found : (old new : Writing S) (fs : List Entry) (path : List ℕ) → old.failed ≡ false
      → AddsUpTo taken faults old new fs (NameCollision path)
      → clash old.entries fs ≡ Some path
  stopped_found old new [] path sound h = absurd h
  stopped_found old new (f ∷ fs) path sound (inl h) =
      clash-here old.entries f fs
      (differs_collides old.failed old.entries f.name f.content sound h.1)
      ∙ ap Some (sym h.0)
  stopped_found old new (f ∷ fs) path sound (inr h) =
      clash-added old h.0 f fs sound h.1
      ∙ stopped_found h.0 new fs path (sound_added taken faults old h.0 f h.1.1 sound) h.2

  -- a name that collides is that of the first clash
  pub clash_found : (old new : Writing S) (fs : List Entry) (path : List ℕ) → old.failed ≡ false
      → Stops taken faults old new fs (NameCollision path)
      → clash old.entries fs ≡ Some path
  clash_found old new fs path sound (inl h) = stopped_found old new fs path sound h
  clash_found old new fs path sound (inr h) = absurd (let k = h.0 in cc)
