-- What is made of a bundle that was read, and why nothing is.
use Rattle.std.proofs.Common.{◌≡◌, ◌⊎◌, inl, inr, ℕ, ◌≤◌, List, length, Option, Some}
use Rattle.std.proofs.Common.{Result, Ok, Err, IfOk, IfErr, refl, sym, ap, subst, arith}
use Rattle.std.specs.declared.alloc.Global.{Global}
use Rattle.std.specs.Prelude.{Vec}
use Rattle.rec_container.proofs.Unique.{no_fault, one_reading_spec}
use Rattle.rec_container.specs.Causes.{Rose}
use Rattle.rec_container.specs.Container.{Entry, IsContainer}
use Rattle.rec_container.specs.declared.within.ReadError.TheVariants as read
use Rattle.rec_container.specs.declared.within.ReadError.{ReadError}
use Rattle.rec_container.specs.Reading.{IsFault}
use Rattle.rec_container.specs.Within.{Unread}
use Rattle.rec_format.specs.declared.manifest.PortableManifest.{PortableManifest}
use Rattle.rec_portable.specs.declared.errors.PortableRecordingReadError.TheVariants as bundles
use Rattle.rec_portable.specs.declared.errors.PortableRecordingReadError.{
  PortableRecordingReadError,
}
use Rattle.rec_portable.specs.Errors.{source_error}
use Rattle.rec_portable.specs.Judging.{Refuses, judged}
use Rattle.rec_portable.specs.Opening.{Opening, Opens, Unopened}
use Rattle.rec_errors.specs.declared.reading_error.ReadingError.TheVariants.{OutOfMemory}
use Rattle.rec_errors.specs.declared.reading_error.ReadingError.{ReadingError}
use Rattle.rec_errors.specs.ReadingErrors.{bundle_error}
use Rattle.rec_reading.specs.Listing.{Makes}
use Rattle.rec_export.proofs.Complete.{no_more, same_session}
use Rattle.rec_program.specs.ReadingCommands.{IsMadeOf, OfJudged, Shows, Withholds}

-- ---- a bundle that isn't opened

module _ {A E : Type 0} (opening : PortableRecordingReadError → E)
    (makes : ℕ → List Entry → Result A E → Type 0) (limit : ℕ) {S : Type 0}
    (left : S → Option (List ℕ)) (faults : S → ℕ) (spool : ℕ) (old new : S) where
  refuses : (bytes : List ℕ) (fault : PortableRecordingReadError) → Refuses bytes limit fault
      → (opening fault ≡ opening bundles.OutOfMemory)
      ⊎ IsMadeOf opening makes limit bytes (Err (opening fault))
  refuses bytes fault (inl h) = inl (ap opening h)
  refuses bytes fault (inr (inl n)) = inr (inr (
    n.0,
    n.2,
    ap (λ (f : PortableRecordingReadError). let r : Result A E = Err (opening f) in r) (sym n.1),
  ))
  refuses bytes fault (inr (inr j)) =
      inr (inl (
        j.0,
        j.1,
        subst (λ (r : Result PortableManifest PortableRecordingReadError).
            OfJudged opening makes limit j.0 r (Err (opening fault)))
            (sym j.2) refl,
      ))

  -- nothing is made of it
  pub unopened : (fault : PortableRecordingReadError)
      → Unopened left faults spool limit old new fault
      → Withholds opening makes limit left faults spool old new (opening fault)
  unopened fault (inl u) = inl (u.0, ap opening u.1, u.2)
  unopened fault (inr g) = inr (g.0, g.1, refuses g.0 fault g.2)

  -- ---- a bundle that was opened

  module _ (path : List ℕ) (r : Opening)
      (opens : Opens left faults path spool limit old new r) where
    -- what is made of its entries is made of it
    pub made_of_opened : (x : Result A E) → makes r.limit opens.judged.0 x
        → IsMadeOf opening makes limit r.bytes x
    made_of_opened x h =
        let within : makes limit opens.judged.0 x =
        subst (λ (l : ℕ). makes l opens.judged.0 x) opens.limit_is h in
        inl (
          opens.judged.0,
          opens.judged.1,
          subst (λ (j : Result PortableManifest PortableRecordingReadError).
              OfJudged opening makes limit opens.judged.0 j x)
              (sym opens.judged.2) within,
        )

  -- ---- a bundle that nothing refuses

  module _ (bytes : List ℕ) (es : List Entry) (has : left old ≡ Some bytes)
      (short : length bytes ≤ spool) (is : IsContainer bytes es) (accepted : (e : E)
      → OfJudged opening makes limit es (judged limit es) (Err e) → e ≡ opening bundles.OutOfMemory)
      (source : ¬ (Rose (faults old) (faults new))) where
    unread : (e : E) (fault : ReadError) → e ≡ opening (source_error fault)
        → Unread left faults spool old new fault → e ≡ opening bundles.OutOfMemory
    unread e read.SourceFault h u = absurd (source u.0)
    unread e (read.TooLarge most) h u =
        let longer = no_more (left old) (left new) bytes u.2.0 has u.2.1 in let count = u.2.2 in
        absurd (omega arith)
    unread e read.OutOfMemory h u = h

    refused : (given : List ℕ) (e : E) → given ≡ bytes → IsMadeOf opening makes limit given (Err e)
        → e ≡ opening bundles.OutOfMemory
    refused given e same (inl p) =
        let one : p.0 ≡ es =
        one_reading_spec bytes p.0 es (subst (λ (b : List ℕ). IsContainer b p.0) same p.1) is in
        accepted e (subst
        (λ (l : List Entry). OfJudged opening makes limit l (judged limit l) (Err e)) one p.2)
    refused given e same (inr p) =
        absurd (no_fault bytes es p.0 is (subst (λ (b : List ℕ). IsFault b p.0) same p.1))

    -- something is made of it, unless memory runs out or the source fails
    pub withheld : (e : E) → Withholds opening makes limit left faults spool old new e
        → e ≡ opening bundles.OutOfMemory
    withheld e (inl u) = unread e u.0 u.1 u.2
    withheld e (inr (given, gave, inl h)) = h
    withheld e (inr (given, gave, inr p)) =
        refused given e (same_session (left old) (left new) bytes given has gave.gave gave.ended) p

-- ---- a bundle that was opened, by the text that was made of its entries

module _ (prints : ℕ → List Entry → Result (List ℕ) ReadingError → Type 0) (limit : ℕ) {S : Type 0}
    (left : S → Option (List ℕ)) (faults : S → ℕ) (spool : ℕ) (old new : S) (path : List ℕ)
    (r : Opening) (opens : Opens left faults path spool limit old new r)
    (result : Result (Vec ℕ Global) ReadingError)
    (makes : (es : List Entry) → IsContainer r.bytes es → Makes (prints r.limit es) result) where
  printed : (x : Result (List ℕ) ReadingError) → prints r.limit opens.judged.0 x
      → IsMadeOf bundle_error prints limit r.bytes x
  printed = made_of_opened bundle_error prints limit left faults spool old new path r opens

  showing : (r' : Result (Vec ℕ Global) ReadingError) → Makes (prints r.limit opens.judged.0) r'
      → IfOk r' (λ text. Shows bundle_error prints limit left faults spool old new text.items)
  showing (Ok text) h = (r.bytes, opens.gave, printed (Ok text.items) h)
  showing (Err e) h = tt

  withheld_of : (e : ReadingError) → (e ≡ OutOfMemory) ⊎ prints r.limit opens.judged.0 (Err e)
      → (e ≡ OutOfMemory) ⊎ IsMadeOf bundle_error prints limit r.bytes (Err e)
  withheld_of e (inl h) = inl h
  withheld_of e (inr h) = inr (printed (Err e) h)

  withholding : (r' : Result (Vec ℕ Global) ReadingError) → Makes (prints r.limit opens.judged.0) r'
      → IfErr r' (Withholds bundle_error prints limit left faults spool old new)
  withholding (Ok text) h = tt
  withholding (Err e) h = inr (r.bytes, opens.gave, withheld_of e h)

  pub opened_shows : IfOk result
      (λ text. Shows bundle_error prints limit left faults spool old new text.items)
  opened_shows = showing result (makes opens.judged.0 opens.judged.1)

  pub opened_withholds : IfErr result
      (Withholds bundle_error prints limit left faults spool old new)
  opened_withholds = withholding result (makes opens.judged.0 opens.judged.1)
