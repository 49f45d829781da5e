-- What `parse` gives for a text with no sign.
use Rattle.std.proofs.Common.{◌≡◌, ◌≢◌, ℕ, List, [], ◌∷◌, None, Result}
use Rattle.std.proofs.Common.{Ok, Err, true, refl, arith, get_or}
use Rattle.std.proofs.lemmas.Bool.Decides.{nat_tests}
use Rattle.std.proofs.lemmas.Str.Parse.{IsNumeralModel, numerals_by_value}
use Rattle.std.proofs.lemmas.Str.Parse.{tells_all_ascii_digits, parse_plain}
use Rattle.std.specs.Result.{result_ok}
use Rattle.std.specs.Str.Parse.{ParsesUnsigned, digits_value}
use Rattle.std.specs.Str.{all_ascii_digits}
use Rattle.rec_format.specs.Versions.{number_of}

own : IsNumeralModel (λ ds. all_ascii_digits ds ≡ true) (digits_value 10)
own = numerals_by_value _ tells_all_ascii_digits

-- a sign is no digit
pub number_of_signed : (text : List ℕ) → get_or text 0 0 ≡ 43 → None ≡ number_of text
number_of_signed [] h = refl
number_of_signed (c ∷ cs) h = rw h refl

pub number_of_plain : {E : Type 0} (text : List ℕ) (r : Result ℕ E) → ParsesUnsigned 32 10 text r
    → get_or text 0 0 ≢ 43 → result_ok r ≡ number_of text
number_of_plain {E = E} text (Ok n) h plain =
    let is = parse_plain own {E = E} 32 text (Ok n) h plain in grind (arith, nat_tests, is)
number_of_plain {E = E} text (Err e) h plain =
    let is = parse_plain own {E = E} 32 text (Err e) h plain in grind (arith, nat_tests, is)
