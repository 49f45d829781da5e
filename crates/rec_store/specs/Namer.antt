-- The number of an output.
use Rattle.std.specs.Int.{w64, from_be_bytes}
use Rattle.std.specs.Prelude.{ℕ, ◌%◌, ◌^◌, List, take}
use Rattle.sha2.specs.Sha256.{sha256}

-- the first eight bytes as a big-endian number
abbrev pub first_word : List ℕ → ℕ
first_word digest = from_be_bytes w64 (take 8 digest)

-- the first word of the SHA-256 digest
unfoldable pub sha256_number : List ℕ → ℕ
sha256_number bytes = first_word (sha256 bytes)

-- a number as a u64 holds it
abbrev pub as_u64 : ℕ → ℕ
as_u64 n = n % 2 ^ 64
