-- The number of a text, by its sign.
use Rattle.std.specs.Prelude.{◌≡◌, ◌==◌, ℕ, List, drop, slice_index, false, true, refl}
use Rattle.fast_float.specs.Text.{scan}
use Rattle.serde_json.specs.Read.{number_of, number_from}

pub with_minus : (s : List ℕ) → (slice_index s 0 == 45) ≡ true
    → number_of s ≡ number_from true (scan (drop 1 s))
unfolding number_of
with_minus s e = rw e refl

pub without_sign : (s : List ℕ) → (slice_index s 0 == 45) ≡ false
    → number_of s ≡ number_from false (scan s)
unfolding number_of
without_sign s e = rw e refl
