-- The test for UTF-8.
use Rattle.std.proofs.Common.{◌≡◌, ℕ, List, true, false, Bool, refl}
use Rattle.std.proofs.lemmas.Str.{IsUtf8-from_is_utf8}
use Rattle.std.specs.Str.{is_utf8, IsUtf8}

pub not_utf8 : (bs : List ℕ) → ¬ (IsUtf8 bs) → is_utf8 bs ≡ false
not_utf8 bs h = by (is_utf8 bs) refl
  where
    by : (b : Bool) → is_utf8 bs ≡ b → is_utf8 bs ≡ false
    by true e = absurd (h (IsUtf8-from_is_utf8 bs e))
    by false e = e
