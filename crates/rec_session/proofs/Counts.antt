-- Counts of faults over several calls.
use Rattle.std.proofs.Common.{◌≤◌, ℕ, arith}
use Rattle.rec_container.specs.Causes.{Rose}

pub rose-after : (a b c : ℕ) → a ≤ b → Rose b c → Rose a c
rose-after a b c le rose = omega arith

pub rose-before : (a b c : ℕ) → Rose a b → b ≤ c → Rose a c
rose-before a b c rose le = omega arith
