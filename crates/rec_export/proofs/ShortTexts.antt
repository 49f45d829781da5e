-- Texts of at most so many bytes.
use Rattle.std.proofs.Common.{ℕ, ◌≤◌, List, [], ◌∷◌, length, Option, Some, None, IfSome, arith}
use Rattle.std.specs.List.{AllByRecursion}

abbrev pub AtMost : ℕ → Option (List ℕ) → Type 0
AtMost n o = IfSome o (λ s. length s ≤ n)

pub longer : (n m : ℕ) (o : Option (List ℕ)) → AtMost m o → m ≤ n → AtMost n o
longer n m None h le = tt
longer n m (Some s) h le = omega (arith, h, le)

abbrev pub AllAtMost : ℕ → List (List ℕ) → Type 0
AllAtMost n bs = AllByRecursion (λ b. length b ≤ n) bs

pub all_longer : (n m : ℕ) (bs : List (List ℕ)) → AllAtMost m bs → m ≤ n → AllAtMost n bs
all_longer n m [] h le = tt
all_longer n m (b ∷ bs) h le =
    (let first = h.0 in omega (arith, le, first), all_longer n m bs h.1 le)
