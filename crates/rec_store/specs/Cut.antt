-- How an output is cut to a limit.
use Rattle.std.specs.Fmt.{decimal}
use Rattle.std.specs.Prelude.{ℕ, List, ◌++◌, ◌-◌, ◌/◌, nat_le, length}
use Rattle.std.specs.Prelude.{take, drop, if◌then◌else◌, codes, ⊤}
use Rattle.rec_store.specs.declared.cut.CutOutput.TheVariants.{Borrowed, Owned}
use Rattle.rec_store.specs.declared.cut.CutOutput.{CutOutput}

-- what stands between the ends of an output that is n bytes too long
abbrev pub marker : ℕ → List ℕ
marker n = codes "\n\n... [truncated " ++ (decimal n ++ codes " bytes] ...\n\n")

-- the last k bytes
abbrev pub last : ℕ → List ℕ → List ℕ
last k b = drop (length b - k) b

-- b where its length is at most m; else its two ends around the marker, which take half of the
-- space each, the prefix rounded down
abbrev pub cut : List ℕ → ℕ → List ℕ
cut b m =
    let n = length b - m in
    let space = m - length (marker n) in
    let prefix = space / 2 in
    if nat_le (length b) m then b else take prefix b ++ (marker n ++ last (space - prefix) b)

-- the bytes of a cut
abbrev pub cut_bytes : CutOutput → List ℕ
cut_bytes (Borrowed bytes) = bytes.now
cut_bytes (Owned bytes) = bytes.items

-- whether a cut is lent
abbrev pub IsBorrowed : CutOutput → Type 0
IsBorrowed (Borrowed bytes) = ⊤
IsBorrowed (Owned bytes) = ⊥
