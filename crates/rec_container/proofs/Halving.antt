-- A part of a list is halved at each step.
use Rattle.std.proofs.Common.{◌≡◌, ◌<◌, ◌≤◌, ◌+◌, ◌*◌, ◌^◌, ℕ, suc}
use Rattle.std.proofs.Common.{◌⊎◌, inl, inr, subst, sym, arith}
use Rattle.std.proofs.Math.Nat.{mul-le-mul_left, le-mul_of_pos_right}
use Rattle.std.proofs.Math.Nat.{two-pow-succ, pow-le-pow_right}

-- after k steps at most d of n entries are left, and k is as small as is promised
pub record Halved (n k d : ℕ) : Type 0 where
  pub few : 2 ^ k * d ≤ n
  pub cheap : 2 ^ k ≤ 2 * n + 1

-- p stands for 2 ^ k
halves : (n p d e : ℕ) → p * d ≤ n → e + e ≤ d → (p + p) * e ≤ n
halves n p d e few half = let h = mul-le-mul_left p half in omega arith

cheaper : (n p d : ℕ) → p * d ≤ n → 0 < d → p + p ≤ 2 * n + 1
cheaper n p d few some = let h = le-mul_of_pos_right p some in omega arith

next : (n k d e : ℕ) → Halved n k d → 0 < d → e + e ≤ d → Halved n (suc k) e
next n k d e h some half = record {
  few = subst (λ p. p * e ≤ n) (sym (two-pow-succ k)) (halves n (2 ^ k) d e h.few half);
  cheap = subst (λ p. p ≤ 2 * n + 1) (sym (two-pow-succ k)) (cheaper n (2 ^ k) d h.few some);
}

-- one step more, from a part that isn't empty to at most half of it
pub halve : (n k l d e : ℕ) → Halved n k d → l ≡ suc k → 0 < d → e + e ≤ d → Halved n l e
halve n k l d e h is some half = subst (λ j. Halved n j e) (sym is) (next n k d e h some half)

-- a power that is small has a small exponent
pub exponent : (d e n : ℕ) → 2 ^ d ≤ n → n < 2 ^ suc e → d ≤ e
exponent d e n small below = by (side d e)
  where
    side : (d e : ℕ) → (d ≤ e) ⊎ (suc e ≤ d)
    side d e = grind arith

    by : (d ≤ e) ⊎ (suc e ≤ d) → d ≤ e
    by (inl h) = h
    by (inr h) = absurd (let k = pow-le-pow_right {n = 2} (omega arith) h in omega arith)
