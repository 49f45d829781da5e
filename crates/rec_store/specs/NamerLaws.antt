-- The number of an output is a u64.
use Rattle.std.proofs.Common.{ℕ, zero, suc, ◌<◌, ◌%◌, ◌/◌, ◌^◌, List, [], ◌∷◌, ◌++◌, take, arith}
use Rattle.std.specs.Int.{byte_at, bytes_high_first}
use Rattle.std.specs.List.{AllByRecursion}
use Rattle.sha2.specs.Sha256.{sha256, digest_bytes}
use Rattle.rec_store.specs.Namer.{first_word, sha256_number, as_u64}

abbrev IsByte : ℕ → Type 0
IsByte b = b < 256

byte_at_below : (i n : ℕ) → IsByte (byte_at i n)
byte_at_below zero n = omega arith
byte_at_below (suc i) n = let q = n / 256 ^ suc i in let r : q % 256 < 256 = omega arith in r

bytes_append : (xs ys : List ℕ) → AllByRecursion IsByte xs → AllByRecursion IsByte ys
    → AllByRecursion IsByte (xs ++ ys)
bytes_append [] ys p q = q
bytes_append (x ∷ xs) ys p q = (p.0, bytes_append xs ys p.1 q)

bytes_take : (n : ℕ) (xs : List ℕ) → AllByRecursion IsByte xs → AllByRecursion IsByte (take n xs)
bytes_take zero xs p = tt
bytes_take (suc n) [] p = tt
bytes_take (suc n) (x ∷ xs) p = (p.0, bytes_take n xs p.1)

bytes_of : (k n : ℕ) → AllByRecursion IsByte (bytes_high_first k n)
bytes_of zero n = tt
bytes_of (suc k) n = (byte_at_below k n, bytes_of k n)

bytes_of_digest : (h : List ℕ) (n : ℕ) → AllByRecursion IsByte (digest_bytes h n)
unfolding digest_bytes
bytes_of_digest h zero = tt
bytes_of_digest h (suc n) = bytes_append (digest_bytes h n) _ (bytes_of_digest h n) (bytes_of 4 _)

-- eight bytes or fewer make a u64
word_below : (bytes : List ℕ) → AllByRecursion IsByte bytes → first_word bytes < 2 ^ 64
word_below [] p = omega arith
word_below (a ∷ []) p = let x = p.0 in omega arith
word_below (a ∷ b ∷ []) p = omega (arith, p.0, p.1.0)
word_below (a ∷ b ∷ c ∷ []) p = omega (arith, p.0, p.1.0, p.1.1.0)
word_below (a ∷ b ∷ c ∷ d ∷ []) p = omega (arith, p.0, p.1.0, p.1.1.0, p.1.1.1.0)
word_below (a ∷ b ∷ c ∷ d ∷ e ∷ []) p = omega (arith, p.0, p.1.0, p.1.1.0, p.1.1.1.0, p.1.1.1.1.0)
word_below (a ∷ b ∷ c ∷ d ∷ e ∷ f ∷ []) p =
    omega (arith, p.0, p.1.0, p.1.1.0, p.1.1.1.0, p.1.1.1.1.0, p.1.1.1.1.1.0)
word_below (a ∷ b ∷ c ∷ d ∷ e ∷ f ∷ g ∷ []) p =
    omega (arith, p.0, p.1.0, p.1.1.0, p.1.1.1.0, p.1.1.1.1.0, p.1.1.1.1.1.0, p.1.1.1.1.1.1.0)
word_below (a ∷ b ∷ c ∷ d ∷ e ∷ f ∷ g ∷ h ∷ rest) p =
    omega (
      arith,
      p.0,
      p.1.0,
      p.1.1.0,
      p.1.1.1.0,
      p.1.1.1.1.0,
      p.1.1.1.1.1.0,
      p.1.1.1.1.1.1.0,
      p.1.1.1.1.1.1.1.0,
    )

pub sha256_number_below : (bytes : List ℕ) → sha256_number bytes < 2 ^ 64
unfolding sha256_number sha256
sha256_number_below bytes = word_below (sha256 bytes) (bytes_of_digest _ 8)

pub as_u64_below : (n : ℕ) → as_u64 n < 2 ^ 64
as_u64_below n = omega arith
