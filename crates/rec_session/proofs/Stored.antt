-- Two entries that a recorder stores, one after the other.
use Rattle.std.proofs.Common.{◌≡◌, ℕ, List, ◌++◌, Bool, true, false, ◌||◌, Option, Result}
use Rattle.std.proofs.Common.{Ok, Err, refl, ap, sym, ◌∙◌, inr, ⊎_elim, true≢false}
use Rattle.std.specs.Prelude.{⊤, IfErr, OnOk}
use Rattle.rec_container.specs.Container.{Entry}
use Rattle.rec_store.proofs.Adding.{sound_after, AddsEach-append, AddsUpTo-after}
use Rattle.rec_store.specs.declared.error.RunStoreError.{RunStoreError}
use Rattle.rec_store.specs.Recording.{Recording, has_failed, Stores, Unstored}

first_false : (a b : Bool) → (a || b) ≡ false → a ≡ false
first_false true b e = e
first_false false b e = refl

second_false : (a b : Bool) → (a || b) ≡ false → b ≡ false
second_false true b e = absurd (true≢false e)
second_false false b e = e

both_false : (a b : Bool) → a ≡ false → b ≡ false → (a || b) ≡ false
both_false a b p q = rw (p, q) refl

module _ {S L N : Type 0} (taken : S → Option (List ℕ)) (faults : S → ℕ) (a b c : Recording S L N)
    (es fs : List Entry) where
  sound_first : Stores taken faults a b es → has_failed b ≡ false
  sound_first s =
      let failed = sound_after taken faults a.store b.store es s.added
      (first_false a.store.failed a.log_failed s.sound) in
      let log : b.log_failed ≡ a.log_failed = ap (λ r. r.log_failed) s.kept in
      both_false b.store.failed b.log_failed failed
      (log ∙ second_false a.store.failed a.log_failed s.sound)

  kept_both : b ≡ record a { store = b.store } → c ≡ record b { store = c.store }
      → c ≡ record a { store = c.store }
  kept_both p q =
      let with_store : Recording S L N → Recording S L N = λ r. record r { store = c.store } in
      q ∙ ap with_store p

  stores_both : Stores taken faults a b es → Stores taken faults b c fs
      → Stores taken faults a c (es ++ fs)
  stores_both s t = record {
    sound = s.sound;
    added = AddsEach-append taken faults a.store b.store c.store es fs s.added t.added;
    kept = kept_both s.kept t.kept;
  }

  unstored_second : (r : RunStoreError) → Stores taken faults a b es
      → Unstored taken faults b c fs r → Unstored taken faults a c (es ++ fs) r
  unstored_second r s u =
      ⊎_elim
      (λ failed. absurd (true≢false (sym failed.1 ∙ sound_first s)))
      (λ refused. inr (
        s.sound,
        kept_both s.kept refused.1,
        AddsUpTo-after taken faults a.store b.store c.store es fs r s.added refused.2,
      ))
      u

  pub both_ok : (result : Result ⊤ RunStoreError) → Stores taken faults a b es
      → OnOk result (Stores taken faults b c fs) → OnOk result (Stores taken faults a c (es ++ fs))
  both_ok (Ok x) s t = stores_both s t
  both_ok (Err r) s t = t

  pub both_err : (result : Result ⊤ RunStoreError) → Stores taken faults a b es
      → IfErr result (Unstored taken faults b c fs)
      → IfErr result (Unstored taken faults a c (es ++ fs))
  both_err (Ok x) s u = u
  both_err (Err r) s u = unstored_second r s u
