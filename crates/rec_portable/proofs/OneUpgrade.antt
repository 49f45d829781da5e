-- Bytes are upgraded or refused in one way.
use Rattle.std.proofs.Common.{◌≡◌, inl, inr, ℕ, List, Option, Some, None, Result}
use Rattle.std.proofs.Common.{sym, ap, subst, ◌∙◌}
use Rattle.rec_container.proofs.Unique.{no_fault, one_fault, one_reading_spec}
use Rattle.rec_container.specs.Container.{Entry, IsContainer, content_of}
use Rattle.rec_container.specs.Reading.{◌>>=◌}
use Rattle.rec_format.specs.declared.manifest.PortableManifest.{PortableManifest}
use Rattle.rec_store.proofs.PartsOf.{the_same}
use Rattle.rec_store.specs.Entries.{store_name}
use Rattle.rec_store.specs.RunParts.{RunParts}
use Rattle.rec_portable.proofs.Judgements.{not_both, same_err, same_ok}
use Rattle.rec_portable.specs.declared.errors.PortableRecordingReadError.TheVariants.{ReadArchive}
use Rattle.rec_portable.specs.declared.errors.PortableRecordingReadError.{
  PortableRecordingReadError,
}
use Rattle.rec_portable.specs.declared.upgrade_error.UpgradeError.{UpgradeError}
use Rattle.rec_portable.specs.Judging.{IsNoContainer, judged}
use Rattle.rec_portable.specs.OuterEntries.{IsStoreRefused, log_part}
use Rattle.rec_portable.specs.Upgrading.{IsAccepted, IsOpened, IsPartRefused, IsRefused, IsUnopened}
use Rattle.rec_portable.specs.Upgrading.{names_judged, open_error, run_judged, upgrade_judged}

-- ---- bytes that aren't opened

one_no_container : (bytes : List ℕ) (x y : PortableRecordingReadError) → IsNoContainer bytes x
    → IsNoContainer bytes y → x ≡ y
one_no_container bytes x y h g =
    h.1 ∙ ap ReadArchive (one_fault bytes h.0 g.0 h.2 g.2) ∙ sym g.1

one_store_refusal : (found : Option (List ℕ)) (x y : PortableRecordingReadError)
    → IsStoreRefused found x → IsStoreRefused found y → x ≡ y
one_store_refusal None x y h g = h ∙ sym g
one_store_refusal (Some bytes) x y h g = one_no_container bytes x y h g

module _ (limit : ℕ) (outer : List Entry) where
  one_part_refusal : (x y : PortableRecordingReadError) → IsPartRefused limit outer x
      → IsPartRefused limit outer y → x ≡ y
  one_part_refusal x y (inl h) (inl g) = same_err PortableManifest x y (sym h ∙ g)
  one_part_refusal x y (inl h) (inr (inl g)) = absurd (not_both _ _ _ g.1 h)
  one_part_refusal x y (inl h) (inr (inr g)) = absurd (not_both _ _ _ g.2 h)
  one_part_refusal x y (inr (inl h)) (inl g) = absurd (not_both _ _ _ h.1 g)
  one_part_refusal x y (inr (inl h)) (inr (inl g)) = same_err (List ℕ) x y (sym h.2 ∙ g.2)
  one_part_refusal x y (inr (inl h)) (inr (inr g)) = absurd (not_both _ _ _ g.3 h.2)
  one_part_refusal x y (inr (inr h)) (inl g) = absurd (not_both _ _ _ h.2 g)
  one_part_refusal x y (inr (inr h)) (inr (inl g)) = absurd (not_both _ _ _ h.3 g.2)
  one_part_refusal x y (inr (inr h)) (inr (inr g)) =
      one_store_refusal (content_of outer store_name) x y h.4 g.4

module _ (bytes : List ℕ) (limit : ℕ) where
  one_unopened : (x y : PortableRecordingReadError) → IsUnopened bytes limit x
      → IsUnopened bytes limit y → x ≡ y
  one_unopened x y (inl h) (inl g) = one_no_container bytes x y h g
  one_unopened x y (inl h) (inr g) = absurd (no_fault bytes g.0 h.0 g.1 h.2)
  one_unopened x y (inr h) (inl g) = absurd (no_fault bytes h.0 g.0 h.1 g.2)
  one_unopened x y (inr h) (inr g) =
      one_part_refusal limit h.0 x y h.2
      (subst (λ (es : List Entry). IsPartRefused limit es y)
      (one_reading_spec bytes g.0 h.0 g.1 h.1) g.2)

-- ---- bytes that are opened

module _ (bytes : List ℕ) (limit : ℕ) (u : IsOpened bytes limit) where
  same_outer : (es : List Entry) → IsContainer bytes es → es ≡ u.outer
  same_outer es h = one_reading_spec bytes es u.outer h u.spelled

  part_not_refused : (x : PortableRecordingReadError) → IsPartRefused limit u.outer x → ⊥
  part_not_refused x (inl h) = not_both _ _ _ u.is_judged h
  part_not_refused x (inr (inl h)) = not_both _ _ _ u.log_read h.2
  part_not_refused x (inr (inr h)) =
      let none =
      subst (λ (found : Option (List ℕ)). IsStoreRefused found x) u.store_found h.4 in
      no_fault u.store u.entries none.0 u.stored none.2

  not_unopened : (x : PortableRecordingReadError) → IsUnopened bytes limit x → ⊥
  not_unopened x (inl none) = no_fault bytes u.outer none.0 u.spelled none.2
  not_unopened x (inr h) =
      part_not_refused x
      (subst (λ (es : List Entry). IsPartRefused limit es x) (same_outer h.0 h.1) h.2)

  abbrev judged_with : List Entry → PortableManifest → List ℕ → List Entry
      → Result RunParts UpgradeError
  judged_with all m log es = names_judged all >>= (λ _. run_judged limit m log es)

  one_judged : (o : IsOpened bytes limit)
      → upgrade_judged bytes limit o ≡ upgrade_judged bytes limit u
  one_judged o =
      let all = same_outer o.outer o.spelled in
      let m = same_ok PortableRecordingReadError o.manifest u.manifest
      (sym o.is_judged ∙ ap (judged limit) all ∙ u.is_judged) in
      let log = same_ok PortableRecordingReadError o.log u.log
      (sym o.log_read ∙ ap (log_part limit) all ∙ u.log_read) in
      let store = the_same o.store u.store (sym o.store_found
      ∙ ap (λ (es : List Entry). content_of es store_name) all ∙ u.store_found) in
      let es = one_reading_spec u.store o.entries u.entries
      (subst (λ (b : List ℕ). IsContainer b o.entries) store o.stored) u.stored in
      ap (λ (fs : List Entry). judged_with fs o.manifest o.log o.entries) all
      ∙ ap (λ (x : PortableManifest). judged_with u.outer x o.log o.entries) m
      ∙ ap (λ (l : List ℕ). judged_with u.outer u.manifest l o.entries) log
      ∙ ap (judged_with u.outer u.manifest u.log) es

-- ---- the upgrade

module _ (bytes : List ℕ) (limit : ℕ) where
  pub one_accepted : (p q : RunParts) → IsAccepted bytes limit p → IsAccepted bytes limit q → p ≡ q
  one_accepted p q h g =
      same_ok UpgradeError p q (sym h.1 ∙ one_judged bytes limit g.0 h.0 ∙ g.1)

  pub one_refused : (e f : UpgradeError) → IsRefused bytes limit e → IsRefused bytes limit f → e ≡ f
  one_refused e f (inl h) (inl g) =
      h.1 ∙ ap open_error (one_unopened bytes limit h.0 g.0 h.2 g.2) ∙ sym g.1
  one_refused e f (inl h) (inr g) = absurd (not_unopened bytes limit g.0 h.0 h.2)
  one_refused e f (inr h) (inl g) = absurd (not_unopened bytes limit h.0 g.0 g.2)
  one_refused e f (inr h) (inr g) =
      same_err RunParts e f (sym h.1 ∙ one_judged bytes limit g.0 h.0 ∙ g.1)

  pub accepted_not_refused : (p : RunParts) (e : UpgradeError) → IsAccepted bytes limit p
      → IsRefused bytes limit e → ⊥
  accepted_not_refused p e a (inl h) = not_unopened bytes limit a.0 h.0 h.2
  accepted_not_refused p e a (inr h) =
      not_both (upgrade_judged bytes limit h.0) p e (one_judged bytes limit a.0 h.0 ∙ a.1) h.1
