-- What the sink of a store took, whatever the calls that store entries came to.
use Rattle.std.proofs.Common.{◌≡◌, ℕ, ◌<◌, ◌^◌, List, [], ◌∷◌, ◌++◌, length, nat_lt}
use Rattle.std.proofs.Common.{ltb-true, Bool, true, false, Option, Some, None, MatchOption}
use Rattle.std.proofs.Common.{refl, sym, ap, subst, ◌∙◌, inl, inr, arith, if◌then◌else◌}
use Rattle.std.proofs.lemmas.Slice.Eq.{bytes_eq-Decides}
use Rattle.std.specs.Io.KnownBytes.{Appends}
use Rattle.std.specs.List.{AllByRecursion}
use Rattle.std.specs.Option.{option_map_or}
use Rattle.std.specs.Str.{bytes_eq}
use Rattle.rec_container.proofs.Lengths.{length-spell-push}
use Rattle.rec_container.proofs.Spelling.{AreFrom-push, prefix-push}
use Rattle.rec_container.specs.Container.{Entry, spell, prefix, addition}
use Rattle.rec_container.specs.Container.{content_of, AreFrom, IsEntry, IsName}
use Rattle.rec_container.specs.declared.errors.ContainerWriteError.TheVariants as writing
use Rattle.rec_container.specs.Taking.{TookPart}
use Rattle.rec_container.specs.Writing.{Writing, entry_named, refusal, has_name_length}
use Rattle.rec_store.proofs.Adding.{sound_added}
use Rattle.rec_store.proofs.Clashing.{name_accepted}
use Rattle.rec_store.proofs.Held.{all_append}
use Rattle.rec_store.specs.declared.error.RunStoreError.TheVariants.{
  Failed,
  NotLoadedOutput,
  NameCollision,
  CountOutOfRange,
  StoreWrite,
  RunLogWrite,
  OutOfMemory,
}
use Rattle.rec_store.specs.declared.error.RunStoreError.{RunStoreError}
use Rattle.rec_store.specs.Recording.{AddsEntry, AddsEach, AddsUpTo, RefusesEntry}
use Rattle.rec_store.specs.Saved.{IsReadable, TookEntries}
use Rattle.rec_store.specs.Stopping.{AddsFirst, Stops}

-- an entry of a name that a container takes, and read by its form where it is metadata
abbrev pub IsStorable : Entry → Type 0
IsStorable e = IsName e.name × IsReadable e

-- known bytes that grew
pub appended : (bytes more : List ℕ) (now : Option (List ℕ)) → Appends (Some bytes) now more
    → now ≡ Some (bytes ++ more)
appended bytes more None h = absurd h
appended bytes more (Some all) h = ap Some h

-- ---- a sink that took what entries are written as

pub took_prefix : (failed : Bool) (es : List Entry) (now : Option (List ℕ)) → failed ≡ false
    → TookEntries failed es now → now ≡ Some (prefix es)
took_prefix true es now sound h = absurd (let k = sound in cc)
took_prefix false es now sound h = h

from_prefix : (failed : Bool) (es : List Entry) (now : Option (List ℕ)) → failed ≡ false
    → now ≡ Some (prefix es) → TookEntries failed es now
from_prefix true es now sound h = absurd (let k = sound in cc)
from_prefix false es now sound h = h

from_part : (failed : Bool) (es : List Entry) (e : Entry) (now : Option (List ℕ)) → failed ≡ true
    → IsEntry e → TookPart (Some (prefix es)) now (addition es e) → TookEntries failed es now
from_part true es e now is entry h = (e, entry, h)
from_part false es e now is entry h = absurd (let k = is in cc)

-- ---- an entry that was not refused has a spelling

same_content : (a b : List ℕ) → Some a ≡ Some b → a ≡ b
same_content a b h = cc

small_in : (b : Bool) (e : Entry) (held : Option (List ℕ)) (content : List ℕ)
    → length e.content < 2 ^ 64 → (held ≡ Some content → length content < 2 ^ 64)
    → (if b then Some e.content else held) ≡ Some content → length content < 2 ^ 64
small_in true e held content small later h =
    subst (λ (c : List ℕ). length c < 2 ^ 64) (same_content e.content content h) small
small_in false e held content small later h = later h

small_found : (seen es : List Entry) (name content : List ℕ) → AreFrom seen es
    → content_of es name ≡ Some content → length content < 2 ^ 64
small_found seen [] name content from h = absurd (let k = h in cc)
small_found seen (e ∷ es) name content from h =
    small_in (bytes_eq name e.name) e (content_of es name) content from.0.content
    (small_found (seen ++ e ∷ []) es name content from.2) h

small_sum : (n : ℕ) (b : Bool) → nat_lt n (2 ^ 64) ≡ b
    → (if b then None else Some writing.CountOutOfRange) ≡ None → n < 2 ^ 64
small_sum n true is h = ltb-true n (2 ^ 64) is
small_sum n false is h = absurd (let k = h in cc)

agreed : (a b : List ℕ) (t : Bool) → bytes_eq a b ≡ t
    → (if t then None else Some writing.NameCollision) ≡ None → a ≡ b
agreed a b true is h = (bytes_eq-Decides a b).0 is
agreed a b false is h = absurd (let k = h in cc)

small_accepted : (held : Option (List ℕ)) (es : List Entry) (e : Entry)
    → content_of es e.name ≡ held → AreFrom [] es
    → option_map_or (λ c. if bytes_eq c e.content then None else Some writing.NameCollision) held
    (if nat_lt (length (spell (es ++ e ∷ []))) (2 ^ 64) then None else Some writing.CountOutOfRange)
    ≡ None
    → length e.content < 2 ^ 64
small_accepted None es e is from h =
    let small = small_sum (length (spell (es ++ e ∷ [])))
    (nat_lt (length (spell (es ++ e ∷ []))) (2 ^ 64)) refl h in
    omega (arith, small, length-spell-push es e)
small_accepted (Some held) es e is from h =
    subst (λ (c : List ℕ). length c < 2 ^ 64)
    (agreed held e.content (bytes_eq held e.content) refl h) (small_found [] es e.name held from is)

accepted_entry : (failed : Bool) (es : List Entry) (e : Entry) → failed ≡ false → AreFrom [] es
    → IsName e.name → refusal failed es e.name e.content ≡ None → IsEntry e
accepted_entry true es e sound from is h = absurd (let k = sound in cc)
accepted_entry false es e sound from is h = record {
  name = is;
  content =
      small_accepted (content_of es e.name) es e refl from
      (name_accepted (has_name_length e.name) _ h);
}

-- ---- what calls leave

module _ {S : Type 0} (taken : S → Option (List ℕ)) where
  -- a store's sink took its entries, which have spellings and are read where they are metadata
  pub record HasStored (w : Writing S) : Type 0 where
    pub took : TookEntries w.failed w.entries (taken w.sink)
    pub distinct : AreFrom [] w.entries
    pub readable : AllByRecursion IsReadable w.entries

module _ {S : Type 0} (taken : S → Option (List ℕ)) (faults : S → ℕ) where
  stored_at : (old new : Writing S) (e : Entry) (held : Option (List ℕ))
      → content_of old.entries e.name ≡ held
      → MatchOption held ((new.entries ≡ old.entries ++ entry_named e.name e.content ∷ [])
      × (new.failed ≡ false) × Appends (taken old.sink) (taken new.sink)
      (addition old.entries (entry_named e.name e.content)))
      (λ c. new ≡ old)
      → old.failed ≡ false → IsEntry e → IsReadable e → HasStored taken old → HasStored taken new
  stored_at old new e None is h sound entry read stored =
      let before = took_prefix old.failed old.entries (taken old.sink) sound stored.took in
      let now = appended (prefix old.entries) (addition old.entries e) (taken new.sink)
      (subst (λ (known : Option (List ℕ)). Appends known (taken new.sink) (addition old.entries e))
      before h.2) in
      record {
        took =
            from_prefix new.failed new.entries (taken new.sink) h.1
            (now ∙ ap Some (sym (ap prefix h.0 ∙ prefix-push old.entries e)));
        distinct =
            subst (AreFrom []) (sym h.0) (AreFrom-push [] old.entries e stored.distinct entry is);
        readable =
            subst (AllByRecursion IsReadable) (sym h.0)
            (all_append IsReadable old.entries (e ∷ []) stored.readable (read, tt));
      }
  stored_at old new e (Some c) is h sound entry read stored = subst (HasStored taken) (sym h) stored

  stored_one : (old new : Writing S) (e : Entry) → HasStored taken old → old.failed ≡ false
      → IsStorable e → AddsEntry taken faults old new e → HasStored taken new
  stored_one old new e stored sound is h =
      stored_at old new e (content_of old.entries e.name) refl h.1 sound
      (accepted_entry old.failed old.entries e sound stored.distinct is.0 h.0) is.1 stored

  -- entries that were all stored
  pub stored_each : (old new : Writing S) (es : List Entry) → HasStored taken old
      → old.failed ≡ false → AllByRecursion IsStorable es → AddsEach taken faults old new es
      → HasStored taken new
  stored_each old new [] stored sound are h = subst (HasStored taken) (sym h) stored
  stored_each old new (e ∷ es) stored sound are h =
      stored_each h.0 new es (stored_one old h.0 e stored sound are.0 h.1)
      (sound_added taken faults old h.0 e h.1.1 sound) are.1 h.2

  -- an entry that was refused
  pub stored_refused : (old new : Writing S) (e : Entry) (error : RunStoreError)
      → HasStored taken old → old.failed ≡ false → IsName e.name
      → RefusesEntry taken faults old new e error
      → HasStored taken new
  stored_refused old new e (NameCollision path) stored sound is h =
      subst (HasStored taken) (sym h.2) stored
  stored_refused old new e CountOutOfRange stored sound is h =
      subst (HasStored taken) (sym h.1) stored
  stored_refused old new e StoreWrite stored sound is h =
      let entry = accepted_entry old.failed old.entries e sound stored.distinct is h.0 in
      let before = took_prefix old.failed old.entries (taken old.sink) sound stored.took in
      let part =
      subst (λ (known : Option (List ℕ)). TookPart known (taken new.sink) (addition old.entries e))
      before h.1.3 in
      record {
        took =
            subst (λ (es : List Entry). TookEntries new.failed es (taken new.sink)) (sym h.1.2)
            (from_part new.failed old.entries e (taken new.sink) h.1.1 entry part);
        distinct = subst (AreFrom []) (sym h.1.2) stored.distinct;
        readable = subst (AllByRecursion IsReadable) (sym h.1.2) stored.readable;
      }
  stored_refused old new e OutOfMemory stored sound is h = subst (HasStored taken) (sym h) stored
  stored_refused old new e Failed stored sound is h = absurd h
  stored_refused old new e NotLoadedOutput stored sound is h = absurd h
  stored_refused old new e RunLogWrite stored sound is h = absurd h

  -- entries of which one was refused
  pub stored_up_to : (old new : Writing S) (es : List Entry) (error : RunStoreError)
      → HasStored taken old → old.failed ≡ false → AllByRecursion IsStorable es
      → AddsUpTo taken faults old new es error → HasStored taken new
  stored_up_to old new [] error stored sound are h = absurd h
  stored_up_to old new (e ∷ es) error stored sound are (inl h) =
      stored_refused old new e error stored sound are.0.0 h
  stored_up_to old new (e ∷ es) error stored sound are (inr h) =
      stored_up_to h.0 new es error (stored_one old h.0 e stored sound are.0 h.1)
      (sound_added taken faults old h.0 e h.1.1 sound) are.1 h.2

  stored_first : (old new : Writing S) (es : List Entry) → HasStored taken old → old.failed ≡ false
      → AllByRecursion IsStorable es → AddsFirst taken faults old new es → HasStored taken new
  stored_first old new [] stored sound are h = subst (HasStored taken) (sym h) stored
  stored_first old new (e ∷ es) stored sound are (inl h) = subst (HasStored taken) (sym h) stored
  stored_first old new (e ∷ es) stored sound are (inr h) =
      stored_first h.0 new es (stored_one old h.0 e stored sound are.0 h.1)
      (sound_added taken faults old h.0 e h.1.1 sound) are.1 h.2

  -- entries that were not all stored, or of which nothing came
  pub stored_stopped : (old new : Writing S) (es : List Entry) (error : RunStoreError)
      → HasStored taken old → old.failed ≡ false → AllByRecursion IsStorable es
      → Stops taken faults old new es error → HasStored taken new
  stored_stopped old new es error stored sound are (inl h) =
      stored_up_to old new es error stored sound are h
  stored_stopped old new es error stored sound are (inr h) =
      stored_first old new es stored sound are h.1
