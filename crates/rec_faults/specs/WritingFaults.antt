-- What stands on the sink for faults.
use Rattle.std.specs.Io.KnownBytes.{Appends}
use Rattle.std.specs.Prelude.{◌≡◌, ◌⊎◌, ℕ, ◌≤◌, Bool, false, true, List, ◌++◌, Option}
use Rattle.rec_container.specs.Causes.{Rose}
use Rattle.rec_container.specs.Taking.{TookPart}

module _ {G : Type 0} (taken : G → Option (List ℕ)) (faults : G → ℕ) where
  -- the sink took the line, or it failed and took a proper prefix of it
  abbrev pub WritesFault : G → G → List ℕ → Type 0
  WritesFault old new line =
      Appends (taken old) (taken new) line
      ⊎ (Rose (faults old) (faults new) × TookPart (taken old) (taken new) line)

  -- since its line began the sink took what stands before this rest of it
  pub record Took (first now : G) (line rest : List ℕ) : Type 0 where
    pub done : List ℕ
    pub split : line ≡ done ++ rest
    pub appended : Appends (taken first) (taken now) done
    pub later : faults first ≤ faults now

  -- this rest of a line is left to be written; or the sink has failed,
  -- and took a proper prefix of the line
  abbrev pub Remains : G → List ℕ → List ℕ → Bool → G → Type 0
  Remains first line rest false now = Took first now line rest
  Remains first line rest true now =
      Rose (faults first) (faults now) × TookPart (taken first) (taken now) line

  -- of whatever line, what stands before the rest is written, up to the first fault of the sink
  pub record Writes (before : List ℕ → List ℕ) (failed : Bool) (old : G) (fails : Bool)
      (new : G) : Type 0 where
    pub goes : (first : G) (line whole rest : List ℕ) → whole ≡ before rest
        → Remains first line whole failed old → Remains first line rest fails new
