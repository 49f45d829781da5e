use Rattle.std.proofs.Common.{◌≡◌, drop, false, length-drop, sym, take_all, true, ap, arith, ◌∙◌}
use Rattle.fast_float.specs.Text.{scan}
use Rattle.serde_json.specs.Read.{number_of, number_from}
use Rattle.rec_json.proofs.numbers.number.Goals as goal
use Rattle.rec_json.proofs.NumberTexts.{with_minus, without_sign}

pub returns-then-has_minus : goal.returns-then-has_minus
returns-then-has_minus c =
    let s = c.as_bytes-bytes.result.now in
    let digits : c.scan.result ≡ scan (drop 1 s) =
    c.scan.ensures.parts ∙ ap scan (take_all _ (drop 1 s) (omega (arith, length-drop 1 s))) in
    c.negative.ensures ∙ ap (number_from true) digits
    ∙ sym (with_minus s (sym c.if-has_minus.ensures.test))
    ∙ ap number_of c.as_bytes-bytes.ensures.value

pub returns-else-has_minus : goal.returns-else-has_minus
returns-else-has_minus c =
    let s = c.as_bytes-bytes.result.now in
    c.natural.ensures ∙ ap (number_from false) c.scan-else-has_minus.ensures.parts
    ∙ sym (without_sign s (sym c.if-has_minus.ensures.test))
    ∙ ap number_of c.as_bytes-bytes.ensures.value
