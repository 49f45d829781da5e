-- The lines of counts, one after the other.
use Rattle.std.proofs.Common.{◌≡◌, ℕ, suc, ◌+◌, List, ◌++◌, Option}
use Rattle.std.proofs.Common.{Ok, Err, refl, sym, ap, subst, inl, inr, arith}
use Rattle.std.proofs.KnownBytes.{Appends-nil, Appends-trans}
use Rattle.std.specs.Io.KnownBytes.{Appends}
use Rattle.rec_live_recording.specs.Acknowledgements.{Acknowledges, Tells, count_line, count_lines}
use Rattle.rec_live_recording.specs.declared.errors.LiveError.{LiveError}

-- the line of a count stands after those before it
pub count_lines-next : (n k : ℕ) → k ≡ n + 1 → count_lines k ≡ count_lines n ++ count_line n
count_lines-next n k is =
    let same : k ≡ suc n = omega (arith, is) in
    ap count_lines same

-- nothing was told
pub tells_nothing : (before : Option (List ℕ)) → Tells before before 0
tells_nothing before = inl (Appends-nil before)

module _ {O : Type 0} (taken : O → Option (List ℕ)) (faults : O → ℕ) (before : Option (List ℕ))
    (old new : O) (n : ℕ) (told : Appends before (taken old) (count_lines n)) where
  -- a count was told after those before it
  pub tells_next : Acknowledges taken faults n old new (Ok tt)
      → Appends before (taken new) (count_lines (n + 1))
  tells_next h =
      subst (Appends before (taken new)) (sym (count_lines-next n (n + 1) refl))
      (Appends-trans before (taken old) (taken new) (count_lines n) (count_line n) told h.0)

  -- or was not, or a part of it
  pub tells_part : (e : LiveError) → Acknowledges taken faults n old new (Err e)
      → Tells before (taken new) n
  tells_part e (inl h) = inl (subst (λ o. Appends before (taken o) (count_lines n)) (sym h.1) told)
  tells_part e (inr h) = inr (taken old, told, h.1)
