use Rattle.std.proofs.Common.{◌≡◌, get_or, ◌∙◌, lit<, true≢false, sym}
use Rattle.std.proofs.lemmas.Str.Pattern.{starts_char}
use Rattle.rec_format.proofs.VersionNumbers.{number_of_signed, number_of_plain}
use Rattle.rec_format.proofs.versions.version_number.Goals as goal

pub returns-then-starts_with : goal.returns-then-starts_with
returns-then-starts_with c =
    number_of_signed c.args.text.now ((starts_char 43 c.args.text.now c.starts_with.result
    c.starts_with.ensures.cases (lit< tt) (lit< tt)).0 c.if-starts_with.true)

pub returns : goal.returns
returns c =
    let no_sign : get_or c.args.text.now 0 0 ≡ 43 → ⊥ =
    λ sign. true≢false (sym ((starts_char 43 c.args.text.now c.starts_with.result
    c.starts_with.ensures.cases (lit< tt) (lit< tt)).1 sign) ∙ c.if-starts_with.false) in
    c.ok.ensures.value
    ∙ number_of_plain c.args.text.now c.parse.result c.parse.ensures.value.0 no_sign
