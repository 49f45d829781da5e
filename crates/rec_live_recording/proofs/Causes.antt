-- What errors come of, carried from call to call.
use Rattle.std.proofs.Common.{◌≡◌, ℕ, ◌<◌, ◌≤◌, List, Option, Some, Err, refl, sym, ap}
use Rattle.std.proofs.Common.{subst, ◌∙◌, inl, inr, arith}
use Rattle.rec_container.specs.Causes.{Rose}
use Rattle.rec_container.specs.declared.within.ReadError.TheVariants as reading
use Rattle.rec_container.specs.declared.within.ReadError.{ReadError}
use Rattle.rec_errors.specs.declared.export_error.RecordExportError.TheVariants.{
  OutOfMemory,
  SessionTooLarge,
}
use Rattle.rec_errors.specs.declared.export_error.RecordExportError.{RecordExportError}
use Rattle.rec_live_recording.specs.Acknowledgements.{Acknowledges}
use Rattle.rec_live_recording.specs.declared.errors.LiveError.TheVariants.{
  LogFault,
  ManifestFault,
  OutFault,
  Refused,
  StoreFault,
}
use Rattle.rec_live_recording.specs.declared.errors.LiveError.{LiveError}
use Rattle.rec_live_recording.specs.Faults.{read_fault}
use Rattle.rec_live_recording.specs.LineReading.{IsCaused, LineReading, ReadsLine}
use Rattle.rec_live_recording.specs.Refusals.{ComesOf, IsLineRefused, IsRefused}

-- ---- counts of faults

pub rose_after : (a b c : ℕ) → a ≤ b → Rose b c → Rose a c
rose_after a b c le rose = omega arith

pub rose_before : (a b c : ℕ) → Rose a b → b ≤ c → Rose a c
rose_before a b c rose le = omega arith

pub never_rose : Rose 0 0 → ⊥
never_rose rose = omega arith

-- ---- what is known of each sink and of a refusal, put more weakly

pub comes_weaker : (m m' s s' l l' o o' : Type 0) (r r' : RecordExportError → Type 0)
    → (m → m') → (s → s') → (l → l') → (o → o') → ((e : RecordExportError) → r e → r' e)
    → (e : LiveError) → ComesOf m s l o r e → ComesOf m' s' l' o' r' e
comes_weaker m m' s s' l l' o o' r r' f g h i j ManifestFault c = f c
comes_weaker m m' s s' l l' o o' r r' f g h i j StoreFault c = g c
comes_weaker m m' s s' l l' o o' r r' f g h i j LogFault c = h c
comes_weaker m m' s s' l l' o o' r r' f g h i j OutFault c = i c
comes_weaker m m' s s' l l' o o' r r' f g h i j (Refused e) c = j e c

module _ (refusal refusal' : Option RecordExportError) (v v' : Type 0)
    (refused : (e : RecordExportError) → refusal ≡ Some e → refusal' ≡ Some e) (f : v → v') where
  pub line_weaker : (e : RecordExportError) → IsLineRefused refusal v e
      → IsLineRefused refusal' v' e
  line_weaker e (inl h) = inl (refused e h)
  line_weaker e (inr (inl h)) = inr (inl (h.0, f h.1))
  line_weaker e (inr (inr h)) = inr (inr h)

  pub refused_weaker : (failed failed' : Type 0) (limit limit' total : ℕ) → limit ≡ limit'
      → (failed → failed') → (e : RecordExportError) → IsRefused failed limit total refusal v e
      → IsRefused failed' limit' total refusal' v' e
  refused_weaker failed failed' limit limit' total same g e (inl h) = inl (h.0, g h.1)
  refused_weaker failed failed' limit limit' total same g e (inr (inl h)) =
      inr (inl (h.0 ∙ ap SessionTooLarge same, subst (λ n. n < total) same h.1))
  refused_weaker failed failed' limit limit' total same g e (inr (inr h)) =
      inr (inr (line_weaker e h))

-- ---- a line that isn't read

module _ {S : Type 0} (left : S → Option (List ℕ)) (faults : S → ℕ) (m s l o : Type 0)
    (refusal : Option RecordExportError) (v failed : Type 0) (limit total : ℕ) where
  pub read_refused : (text : List ℕ) (old new : LineReading S) → old.limit ≡ limit
      → (Rose (faults old.source) (faults new.source) → failed) → (fault : ReadError)
      → IsCaused faults old new (Err fault) → ReadsLine left total text old new (Err fault)
      → ComesOf m s l o (IsRefused failed limit total refusal v) (read_fault fault)
  read_refused text old new same g reading.SourceFault cause reads = inl (refl, g cause)
  read_refused text old new same g (reading.TooLarge most) cause reads =
      inr (inl (ap SessionTooLarge (cause.0 ∙ same), subst (λ n. n < total) same reads))
  read_refused text old new same g reading.OutOfMemory cause reads = inr (inr (inr (inr refl)))

-- ---- a count that isn't told

module _ {O : Type 0} (taken : O → Option (List ℕ)) (faults : O → ℕ) (m s l : Type 0)
    (r : RecordExportError → Type 0) (no_memory : r OutOfMemory) where
  pub untold : (n : ℕ) (old new : O) (e : LiveError) → Acknowledges taken faults n old new (Err e)
      → ComesOf m s l (Rose (faults old) (faults new)) r e
  untold n old new e (inl h) =
      subst (ComesOf m s l (Rose (faults old) (faults new)) r) (sym h.0) no_memory
  untold n old new e (inr h) =
      subst (ComesOf m s l (Rose (faults old) (faults new)) r) (sym h.0) h.2
