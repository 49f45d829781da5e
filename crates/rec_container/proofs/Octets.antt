-- Bytes as numbers below 256.
use Rattle.std.proofs.Common.{◌≡◌, ℕ, ◌+◌, ◌<◌, List, ◌++◌, length, get_or}
use Rattle.std.proofs.Common.{take, drop, refl, ap, subst, ◌∙◌, arith, inl, inr}
use Rattle.std.proofs.lemmas.Bool.{cases_lt}
use Rattle.std.proofs.lemmas.List.{drop_at, length-take, get_or-drop, get_or-take, get_or_past}

abbrev pub AreOctets : List ℕ → Type 0
AreOctets bytes = (i : ℕ) → get_or bytes i 0 < 256

pub AreOctets-take : (n : ℕ) (bytes : List ℕ) → AreOctets bytes → AreOctets (take n bytes)
AreOctets-take n bytes octets i =
    elim (cases_lt i n) [
      | inl within ↦ rw (get_or-take n bytes i 0 within) (octets i)
      | inr past ↦
          rw (get_or_past (take n bytes) i 0 (omega (arith, length-take n bytes))) (omega arith)
    ]

pub AreOctets-drop : (n : ℕ) (bytes : List ℕ) → AreOctets bytes → AreOctets (drop n bytes)
AreOctets-drop n bytes octets i = rw get_or-drop (octets (n + i))

-- what stands after a part
pub AreOctets-after : (bytes part rest : List ℕ) → bytes ≡ part ++ rest → AreOctets bytes
    → AreOctets rest
AreOctets-after bytes part rest e octets =
    subst AreOctets (ap (drop (length part)) e ∙ drop_at part rest (length part) refl)
    (AreOctets-drop (length part) bytes octets)
