-- What several calls of a recorder leave, one after the other.
use Rattle.std.proofs.Common.{◌≡◌, ℕ, List, ◌++◌, Bool, true, false}
use Rattle.std.proofs.Common.{◌||◌, Option, refl, sym, ap, ◌∙◌, inl, inr}
use Rattle.rec_container.specs.Container.{Entry}
use Rattle.rec_store.proofs.Adding.{AddsEach-append, AddsUpTo-prefix, AddsUpTo-after, sound_after}
use Rattle.rec_store.specs.declared.error.RunStoreError.{RunStoreError}
use Rattle.rec_store.specs.Recording.{Recording, has_failed, Stores, Unstored}

both_false : (a b : Bool) → (a || b) ≡ false → (a ≡ false) × (b ≡ false)
both_false true b h = absurd (let k = h in cc)
both_false false b h = (refl, h)

-- where no sink has failed, the store's has not
pub sound_store : {S L N : Type 0} (r : Recording S L N) → has_failed r ≡ false
    → r.store.failed ≡ false
sound_store r h = (both_false r.store.failed r.log_failed h).0

module _ {S L N : Type 0} (taken : S → Option (List ℕ)) (faults : S → ℕ) where
  kept_then : (a b c : Recording S L N) → b ≡ record a { store = b.store }
      → c ≡ record b { store = c.store } → c ≡ record a { store = c.store }
  kept_then a b c p q = q ∙ ap (λ (r : Recording S L N). record r { store = c.store }) p

  pub Stores-append : (a b c : Recording S L N) (es fs : List Entry) → Stores taken faults a b es
      → Stores taken faults b c fs → Stores taken faults a c (es ++ fs)
  Stores-append a b c es fs p q = record {
    sound = p.sound;
    added = AddsEach-append taken faults a.store b.store c.store es fs p.added q.added;
    kept = kept_then a b c p.kept q.kept;
  }

  -- a recorder that stored entries has not failed
  pub sound_stores : (a b : Recording S L N) (es : List Entry) → Stores taken faults a b es
      → has_failed a ≡ false → has_failed b ≡ false
  sound_stores a b es p h =
      let was = both_false a.store.failed a.log_failed h in
      ap (λ (r : Recording S L N). has_failed r) p.kept ∙ ap (λ failed. failed || a.log_failed)
      (sound_after taken faults a.store b.store es p.added was.0)
      ∙ was.1

  pub Unstored-prefix : (a b : Recording S L N) (es fs : List Entry) (e : RunStoreError)
      → Unstored taken faults a b es e → Unstored taken faults a b (es ++ fs) e
  Unstored-prefix a b es fs e (inl h) = inl h
  Unstored-prefix a b es fs e (inr h) =
      inr (h.0, h.1, AddsUpTo-prefix taken faults a.store b.store es fs e h.2)

  pub Unstored-after : (a b c : Recording S L N) (es fs : List Entry) (e : RunStoreError)
      → has_failed a ≡ false → Stores taken faults a b es → Unstored taken faults b c fs e
      → Unstored taken faults a c (es ++ fs) e
  Unstored-after a b c es fs e h p (inl q) =
      absurd (let k = sym q.1 ∙ sound_stores a b es p h in cc)
  Unstored-after a b c es fs e h p (inr q) =
      inr (
        h,
        kept_then a b c p.kept q.1,
        AddsUpTo-after taken faults a.store b.store c.store es fs e p.added q.2,
      )
