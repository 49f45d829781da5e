-- The first run with an id, by its place.
use Rattle.std.proofs.Common.{◌≡◌, ◌≤◌, ◌<◌, ◌+◌, ℕ, zero, suc, List, [], ◌∷◌, length, Bool, true}
use Rattle.std.proofs.Common.{false, not, cond, ◌||◌, Some, None, refl, ap, arith, set, get_or}
use Rattle.std.proofs.lemmas.Grind.{common_steps}
use Rattle.std.proofs.lemmas.List.Folds.{list_any_at}
use Rattle.std.proofs.lemmas.List.Quantifiers.{position-Some}
use Rattle.std.specs.List.{position, position_or_len}
use Rattle.rec_format.specs.declared.run.RecordedRunInfo.{RecordedRunInfo}
use Rattle.rec_session.specs.declared.ending.RunEnding.{RunEnding}
use Rattle.rec_session.specs.Keepers.{ended, first_ended, has_run, is_run}

module _ (end : RunEnding) where
  abbrev is_it : RecordedRunInfo → Bool
  is_it = is_run end.run_id

  -- none has the id
  missing : (runs : List RecordedRunInfo) → length runs ≤ position_or_len is_it runs
      → (has_run end.run_id runs ≡ false) × (first_ended end runs ≡ runs)
  missing [] le = (refl, refl)
  missing (run ∷ runs) le = by (is_it run) le (missing runs)
    where
      by : (b : Bool) → length (run ∷ runs) ≤ cond (not b) (1 + position_or_len is_it runs) 0
          → (length runs ≤ position_or_len is_it runs
          → (has_run end.run_id runs ≡ false) × (first_ended end runs ≡ runs))
          → ((b || has_run end.run_id runs) ≡ false)
          × (cond b (ended end run ∷ runs) (run ∷ first_ended end runs) ≡ run ∷ runs)
      by true le rest = absurd (omega arith)
      by false le rest = let r = rest (omega arith) in (r.0, ap (λ l. run ∷ l) r.1)

  -- the run at this place is the first
  found : (runs : List RecordedRunInfo) (i : ℕ) (d : RecordedRunInfo) → i < length runs
      → is_it (get_or runs i d) ≡ true → ((k : ℕ) → k < i → is_it (get_or runs k d) ≡ false)
      → first_ended end runs ≡ set runs i (ended end (get_or runs i d))
  found [] i d l is before = absurd (omega arith)
  found (run ∷ runs) zero d l is before =
      ap (λ b. cond b (ended end run ∷ runs) (run ∷ first_ended end runs)) is
  found (run ∷ runs) (suc i) d l is before =
      rw (before 0 (omega arith))
      (ap (λ l. run ∷ l) (found runs i d (omega arith) is (λ k lt. before (suc k) (omega arith))))

  pub first_ended-none : (runs : List RecordedRunInfo) → position is_it runs ≡ None
      → (has_run end.run_id runs ≡ false) × (first_ended end runs ≡ runs)
  first_ended-none runs e =
      let le : length runs ≤ position_or_len is_it runs = grind (arith, common_steps) in
      missing runs le

  pub first_ended-some : (runs : List RecordedRunInfo) (i : ℕ) (d : RecordedRunInfo)
      → position is_it runs ≡ Some i
      → first_ended end runs ≡ set runs i (ended end (get_or runs i d))
  first_ended-some runs i d e =
      let at = position-Some is_it runs i d e in found runs i d at.0 at.1 at.2

  pub has_run-some : (runs : List RecordedRunInfo) (i : ℕ) (d : RecordedRunInfo)
      → position is_it runs ≡ Some i → has_run end.run_id runs ≡ true
  has_run-some runs i d e =
      let at = position-Some is_it runs i d e in list_any_at is_it runs i d at.0 at.1
