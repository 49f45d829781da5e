-- Numbers and texts read back.
use Rattle.std.proofs.Common.{arith}
use Rattle.std.proofs.lemmas.Bool.Decides.{nat_tests}
use Rattle.std.proofs.lemmas.Int.{ints}
use Rattle.std.specs.Int.{w32, w64}
use Rattle.std.specs.Prelude.{◌≡◌, ℕ, ◌<◌, ◌^◌, nat_lt, ℤ, pos, negsuc}
use Rattle.std.specs.Prelude.{true, List, Some, option_and_then, FitsSigned}
use Rattle.std.specs.Str.{is_utf8}
use Rattle.serde_json.specs.Data.{string}
use Rattle.serde_json.specs.Find.{as_number, as_str, as_u64, as_i64}
use Rattle.rec_events.specs.Names.{IsText}
use Rattle.rec_forms.specs.GivesWellFormed.{GivesWellFormed}
use Rattle.rec_forms.specs.Numbers.{u32_form, u64_form, i32_form, i64_form, count_form, IsCount}
use Rattle.rec_forms.specs.Shape.{only, natural, natural_below, integer}
use Rattle.rec_forms.specs.Shape.{fits, integer_within, text_of}
use Rattle.rec_forms.specs.WellFormedLaws.{anything, and_then_holds, only_holds}
use Rattle.rec_forms.specs.Writable.{IsWritable, natural_writable, integer_writable}

below_back : (limit n : ℕ) → n < limit → natural_below limit (natural n) ≡ Some n
below_back limit n h = grind (arith, nat_tests)

pub u32_back : (n : ℕ) → n < 2 ^ 32 → u32_form (natural n) ≡ Some n
u32_back n h = below_back (2 ^ 32) n h

pub u64_back : (n : ℕ) → n < 2 ^ 64 → u64_form (natural n) ≡ Some n
u64_back n h = below_back (2 ^ 64) n h

pub i64_back : (z : ℤ) → FitsSigned w64 z → i64_form (integer z) ≡ Some z
i64_back (pos n) h = grind (arith, nat_tests, ints)
i64_back (negsuc n) h = grind (arith, nat_tests, ints)

pub i32_back : (z : ℤ) → FitsSigned w32 z → i32_form (integer z) ≡ Some z
i32_back (pos n) h = grind (arith, nat_tests, ints)
i32_back (negsuc n) h = grind (arith, nat_tests, ints)

pub count_back : (n : ℕ) → IsCount n → count_form (natural n) ≡ Some n
count_back n h = grind (arith, nat_tests)

pub text_back : (s : List ℕ) → IsText s → text_of (string s) ≡ Some s
text_back s h = rw h

-- ---- what is written is writable

pub u32_writable : {n : ℕ} (k : ℕ) → k < 2 ^ 32 → IsWritable n (natural k)
u32_writable k h = natural_writable k (omega (arith, h))

pub count_writable : {n : ℕ} (k : ℕ) → IsCount k → IsWritable n (natural k)
count_writable k h = u32_writable k h.1

pub i32_writable : {n : ℕ} (z : ℤ) → FitsSigned w32 z → IsWritable n (integer z)
i32_writable (pos k) h = integer_writable (pos k) (grind (arith, ints))
i32_writable (negsuc k) h = integer_writable (negsuc k) (grind (arith, ints))

-- ---- what is read is well-formed

-- a number that passes the test is below the limit
pub below_limit : (n limit : ℕ) → nat_lt n limit ≡ true → n < limit
below_limit n limit h = grind (arith, nat_tests)

below_well_formed : (limit : ℕ) → GivesWellFormed (λ n. n < limit) (natural_below limit)
below_well_formed limit = record {
  each = λ d.
      and_then_holds (λ n. only (nat_lt n limit) n) (option_and_then as_u64 (as_number d))
      (anything (option_and_then as_u64 (as_number d))) (λ n _.
      only_holds (nat_lt n limit) n (below_limit n limit));
}

pub u32_well_formed : GivesWellFormed (λ n. n < 2 ^ 32) u32_form
u32_well_formed = below_well_formed (2 ^ 32)

pub u64_well_formed : GivesWellFormed (λ n. n < 2 ^ 64) u64_form
u64_well_formed = below_well_formed (2 ^ 64)

fits_64 : (z : ℤ) → fits (2 ^ 63) z ≡ true → FitsSigned w64 z
fits_64 (pos n) h = grind (arith, nat_tests, ints)
fits_64 (negsuc n) h = grind (arith, nat_tests, ints)

fits_32 : (z : ℤ) → fits (2 ^ 31) z ≡ true → FitsSigned w32 z
fits_32 (pos n) h = grind (arith, nat_tests, ints)
fits_32 (negsuc n) h = grind (arith, nat_tests, ints)

within_well_formed : (P : ℤ → Type 0) (limit : ℕ) → ((z : ℤ) → fits limit z ≡ true → P z)
    → GivesWellFormed P (integer_within limit)
within_well_formed P limit within = record {
  each = λ d.
      and_then_holds (λ z. only (fits limit z) z) (option_and_then as_i64 (as_number d))
      (anything (option_and_then as_i64 (as_number d))) (λ z _.
      only_holds (fits limit z) z (within z));
}

pub i64_well_formed : GivesWellFormed (FitsSigned w64) i64_form
i64_well_formed = within_well_formed (FitsSigned w64) (2 ^ 63) fits_64

pub i32_well_formed : GivesWellFormed (FitsSigned w32) i32_form
i32_well_formed = within_well_formed (FitsSigned w32) (2 ^ 31) fits_32

pub count_well_formed : GivesWellFormed IsCount count_form
count_well_formed = record {
  each = λ d.
      and_then_holds (λ n. only (nat_lt 0 n) n) (u32_form d) (u32_well_formed.each d) (λ n small.
      only_holds (nat_lt 0 n) n (λ some. (below_limit 0 n some, small)));
}

pub text_well_formed : GivesWellFormed IsText text_of
text_well_formed = record {
  each = λ d.
      and_then_holds (λ s. only (is_utf8 s) s) (as_str d) (anything (as_str d))
      (λ s _. only_holds (is_utf8 s) s (λ passed. passed));
}
