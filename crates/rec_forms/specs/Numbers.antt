-- The values and forms of numbers.
use Rattle.std.specs.Prelude.{ℕ, ◌<◌, ◌^◌, ℤ, Option, option_and_then, nat_lt}
use Rattle.serde_json.specs.Data.{Data}
use Rattle.rec_forms.specs.Shape.{only, natural_below, integer_within}

abbrev pub u32_form : Data → Option ℕ
u32_form = natural_below (2 ^ 32)

abbrev pub u64_form : Data → Option ℕ
u64_form = natural_below (2 ^ 64)

abbrev pub i64_form : Data → Option ℤ
i64_form = integer_within (2 ^ 63)

abbrev pub i32_form : Data → Option ℤ
i32_form = integer_within (2 ^ 31)

-- a count of at least one
abbrev pub count_form : Data → Option ℕ
count_form d = option_and_then (λ n. only (nat_lt 0 n) n) (u32_form d)

abbrev pub IsCount : ℕ → Type 0
IsCount n = (0 < n) × (n < 2 ^ 32)
