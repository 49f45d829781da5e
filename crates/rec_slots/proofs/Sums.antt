-- The time of gaps by their kinds.
use Rattle.std.proofs.Common.{◌≡◌, ℕ, suc, zero, ◌+◌, ℤ, pos, ◌+ℤ◌, ◌-ℤ◌, refl, arith, ap}
use Rattle.std.proofs.lemmas.Int.{ints}
use Rattle.rec_slots.specs.Gaps.GapKind.{busy, idle, paused}
use Rattle.rec_slots.specs.Gaps.{GapKind, gap_time, time_in, time_of}

-- a gap is of one kind
one_kind : (k : GapKind) (instant : ℕ → ℤ) (kind : ℕ → GapKind) (j : ℕ) → kind j ≡ k
    → (time_in instant kind busy j +ℤ time_in instant kind paused j) +ℤ time_in instant kind idle j
    ≡ gap_time instant kind j
one_kind paused instant kind j h =
    rw h (let g : (x : ℤ) → (pos 0 +ℤ x) +ℤ pos 0 ≡ x = λ x. omega (arith, ints) in g _)
one_kind busy instant kind j h =
    rw h (let g : (x : ℤ) → (x +ℤ pos 0) +ℤ pos 0 ≡ x = λ x. omega (arith, ints) in g _)
one_kind idle instant kind j h =
    rw h (let g : (x : ℤ) → (pos 0 +ℤ pos 0) +ℤ x ≡ x = λ x. omega (arith, ints) in g _)

pub all_kinds : (instant : ℕ → ℤ) (kind : ℕ → GapKind) (a n : ℕ)
    → (time_of instant kind busy a n +ℤ time_of instant kind paused a n)
    +ℤ time_of instant kind idle a n
    ≡ instant (a + n) -ℤ instant a
all_kinds instant kind a zero =
    let g : (x y : ℤ) → x ≡ y → (pos 0 +ℤ pos 0) +ℤ pos 0 ≡ x -ℤ y = λ x y h. omega (arith, ints) in
    g (instant (a + 0)) (instant a) (ap instant (omega arith))
all_kinds instant kind a (suc n) =
    let e : instant (a + suc n) ≡ instant (suc (a + n)) = ap instant (omega arith) in
    let g : (b p i b1 p1 i1 t u v w : ℤ) → w ≡ v → (b +ℤ p) +ℤ i ≡ t -ℤ u
    → (b1 +ℤ p1) +ℤ i1 ≡ v -ℤ t → ((b +ℤ b1) +ℤ (p +ℤ p1)) +ℤ (i +ℤ i1) ≡ w -ℤ u =
    λ b p i b1 p1 i1 t u v w e h k. omega (arith, ints) in
    g (time_of instant kind busy a n) (time_of instant kind paused a n)
    (time_of instant kind idle a n) (time_in instant kind busy (a + n))
    (time_in instant kind paused (a + n))
    (time_in instant kind idle (a + n)) (instant (a + n)) (instant a) (instant (suc (a + n)))
    (instant (a + suc n)) e (all_kinds instant kind a n)
    (one_kind (kind (a + n)) instant kind (a + n) refl)
