-- The sizes of contents, one after the other.
use Rattle.std.proofs.Common.{◌≡◌, ◌⊎◌, inl, inr, ℕ, ◌+◌, ◌<◌, ◌≤◌, List, [], ◌∷◌}
use Rattle.std.proofs.Common.{drop, get_or, length, map, Option, Some, None}
use Rattle.std.proofs.Common.{option_map, Result, Ok, Err, refl, sym, ap, subst, ◌∙◌}
use Rattle.std.proofs.lemmas.List.Sums.{sum_by-cons}
use Rattle.std.proofs.lemmas.List.{drop_all, drop_more}
use Rattle.std.specs.Option.{option_or}
use Rattle.rec_container.proofs.ContentsLeft.{nothing}
use Rattle.rec_container.specs.Container.{Entry, content_bytes}
use Rattle.rec_container.specs.declared.named_contents.NamedContent.{NamedContent}
use Rattle.rec_container.specs.NamedContents.{entry_of}
use Rattle.rec_store.specs.declared.sizes_judged.TooLarge.{TooLarge}
use Rattle.rec_store.specs.SizesJudged.{first_too_large, too_large}
use Rattle.rec_portable.specs.declared.upgrade_error.UpgradeError.TheVariants.{OutOfMemory}
use Rattle.rec_portable.specs.declared.upgrade_error.UpgradeError.{UpgradeError}
use Rattle.rec_portable.specs.Upgrading.{entries_refusal, size_error, unless}

abbrev done : Unit {0}
done = tt

first_of : (o r : Option TooLarge)
    → option_map size_error (option_or o r)
    ≡ option_or (option_map size_error (option_or o None)) (option_map size_error r)
first_of None r = refl
first_of (Some t) r = refl

-- the refusal of an entry, and then that of the others
pub refusal_next : (limit : ℕ) (e : Entry) (es : List Entry)
    → entries_refusal limit (e ∷ es)
    ≡ option_or (entries_refusal limit (e ∷ [])) (entries_refusal limit es)
refusal_next limit e es = first_of (too_large limit e) (first_too_large limit es)

passes : (o : Option UpgradeError) (u v : Unit {0}) → unless o u ≡ Ok v → o ≡ None
passes None u v h = refl
passes (Some e) u v h = absurd (let k = h in cc)

module _ (limit : ℕ) (e : Entry) (es : List Entry) where
  pub one_refused : (x : UpgradeError)
      → (x ≡ OutOfMemory) ⊎ (unless (entries_refusal limit (e ∷ [])) done ≡ Err x)
      → (x ≡ OutOfMemory) ⊎ (unless (entries_refusal limit (e ∷ es)) done ≡ Err x)
  one_refused x (inl memory) = inl memory
  one_refused x (inr refused) =
      inr (ap (λ o. unless o done) (refusal_next limit e es)
      ∙ by (entries_refusal limit (e ∷ [])) refused)
    where
      by : (o : Option UpgradeError) → unless o done ≡ Err x
          → unless (option_or o (entries_refusal limit es)) done ≡ Err x
      by None h = absurd (let k = h in cc)
      by (Some y) h = h

  pub one_passed : unless (entries_refusal limit (e ∷ [])) done ≡ Ok done
      → entries_refusal limit (e ∷ es) ≡ entries_refusal limit es
  one_passed h =
      refusal_next limit e es
      ∙ ap (λ o. option_or o (entries_refusal limit es)) (passes _ done done h)

-- those that are left of contents
module _ (limit : ℕ) (cs : List NamedContent) (i : ℕ) (more : i < length cs) where
  abbrev one : Entry
  one = entry_of (get_or cs i nothing)

  here : map entry_of (drop i cs) ≡ one ∷ map entry_of (drop (i + 1) cs)
  here = ap (map entry_of) (drop_more cs i nothing more)

  pub content_refused : entries_refusal limit (map entry_of cs)
      ≡ entries_refusal limit (map entry_of (drop i cs))
      → (x : UpgradeError)
      → (x ≡ OutOfMemory) ⊎ (unless (entries_refusal limit (one ∷ [])) done ≡ Err x)
      → (x ≡ OutOfMemory) ⊎ (unless (entries_refusal limit (map entry_of cs)) done ≡ Err x)
  content_refused so_far x h =
      subst (λ o. (x ≡ OutOfMemory) ⊎ (unless o done ≡ Err x))
      (sym (so_far ∙ ap (entries_refusal limit) here))
      (one_refused limit one (map entry_of (drop (i + 1) cs)) x h)

  pub content_passed : entries_refusal limit (map entry_of cs)
      ≡ entries_refusal limit (map entry_of (drop i cs))
      → unless (entries_refusal limit (one ∷ [])) done ≡ Ok done
      → entries_refusal limit (map entry_of cs)
      ≡ entries_refusal limit (map entry_of (drop (i + 1) cs))
  content_passed so_far h =
      so_far ∙ ap (entries_refusal limit) here
      ∙ one_passed limit one (map entry_of (drop (i + 1) cs)) h

  pub bytes_next : content_bytes (map entry_of (drop i cs))
      ≡ length (get_or cs i nothing).content.now + content_bytes (map entry_of (drop (i + 1) cs))
  bytes_next =
      ap content_bytes here
      ∙ sum_by-cons (λ (e : Entry). length e.content) one (map entry_of (drop (i + 1) cs))

pub contents_passed : (limit : ℕ) (cs : List NamedContent) (i : ℕ) → length cs ≤ i
    → entries_refusal limit (map entry_of cs) ≡ entries_refusal limit (map entry_of (drop i cs))
    → unless (entries_refusal limit (map entry_of cs)) done ≡ Ok done
contents_passed limit cs i past so_far =
    ap (λ o. unless o done) (so_far
    ∙ ap (λ (l : List NamedContent). entries_refusal limit (map entry_of l)) (drop_all i cs past))

pub no_bytes : (cs : List NamedContent) (i : ℕ) → length cs ≤ i
    → content_bytes (map entry_of (drop i cs)) ≡ 0
no_bytes cs i past =
    ap (λ (l : List NamedContent). content_bytes (map entry_of l)) (drop_all i cs past)
