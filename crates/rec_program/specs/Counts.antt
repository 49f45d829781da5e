-- The line that counts what was written.
use Rattle.std.specs.Fmt.{decimal}
use Rattle.std.specs.Prelude.{ℕ, List, [], ◌∷◌, ◌++◌, codes, Bool, true, false}
use Rattle.rec_packing.specs.declared.packing.Packed.{Packed}

-- how many events and outputs were written, as a line
unfoldable pub counts_line : ℕ → ℕ → List ℕ
counts_line events outputs =
    codes "events=" ++ (decimal events ++ (codes " outputs=" ++ (decimal outputs ++ 10 ∷ [])))

-- the same of what was packed, of a run that was whole or stopped
abbrev pub packed_counts : ℕ → ℕ → Bool → List ℕ
packed_counts events outputs true =
    codes "events="
    ++ (decimal events ++ (codes " outputs=" ++ (decimal outputs ++ codes " stopped\n")))
packed_counts events outputs false = counts_line events outputs

abbrev pub packed_line : Packed → List ℕ
packed_line p = packed_counts p.events p.outputs p.stopped
