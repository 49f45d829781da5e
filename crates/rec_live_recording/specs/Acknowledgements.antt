-- What is told of the events that were accepted.
use Rattle.std.specs.Bool.{⊤}
use Rattle.std.specs.Fmt.{decimal}
use Rattle.std.specs.Io.KnownBytes.{Appends}
use Rattle.std.specs.Prelude.{◌≡◌, ℕ, zero, suc, ◌≤◌, List, [], ◌∷◌, ◌++◌, codes, Option}
use Rattle.std.specs.Prelude.{Result, Ok, Err, ◌⊎◌}
use Rattle.rec_container.specs.Causes.{Rose}
use Rattle.rec_container.specs.Taking.{TookPart}
use Rattle.rec_errors.specs.declared.export_error.RecordExportError.TheVariants.{OutOfMemory}
use Rattle.rec_live_recording.specs.declared.errors.LiveError.TheVariants.{Refused, OutFault}
use Rattle.rec_live_recording.specs.declared.errors.LiveError.{LiveError}

-- the line that says how many events were accepted
abbrev pub count_line : ℕ → List ℕ
count_line count = codes "accepted=" ++ (decimal count ++ 10 ∷ [])

-- the first so many lines: those of 0, 1, ..
abbrev pub count_lines : ℕ → List ℕ
count_lines zero = []
count_lines (suc lines) = count_lines lines ++ count_line lines

-- a sink took the first so many lines; or these, and of the next one a part
abbrev pub Tells : Option (List ℕ) → Option (List ℕ) → ℕ → Type 0
Tells before now lines =
    Appends before now (count_lines lines)
    ⊎ ((mid : Option (List ℕ)) × Appends before mid (count_lines lines)
    × TookPart mid now (count_line lines))

module _ {O : Type 0} (taken : O → Option (List ℕ)) (faults : O → ℕ) where
  -- the line of a count was taken; or memory ran out before; or the sink failed, and took a part
  abbrev pub Acknowledges : ℕ → O → O → Result ⊤ LiveError → Type 0
  Acknowledges count old new (Ok done) =
      Appends (taken old) (taken new) (count_line count) × (faults old ≤ faults new)
  Acknowledges count old new (Err e) =
      ((e ≡ Refused OutOfMemory) × (new ≡ old))
      ⊎ ((e ≡ OutFault) × TookPart (taken old) (taken new) (count_line count)
      × Rose (faults old) (faults new))
