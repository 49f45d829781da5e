-- Tables of names.
use Rattle.std.specs.Borrow.{Bor}
use Rattle.std.specs.Prelude.{ℕ, List, map}

-- the texts themselves, in place of what borrows them
abbrev pub table : {T : Type 0} → List (Bor (List ℕ) × T) → List (List ℕ × T)
table ts = map (λ t. (t.0.now, t.1)) ts
