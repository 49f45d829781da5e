use Rattle.std.proofs.Common.{◌∙◌, ap, [], ◌∷◌, ◌++◌}
use Rattle.serde_json.specs.Written.{compact_text}
use Rattle.rec_format.specs.HeadForms.{head_value}
use Rattle.rec_sample.proofs.session.head_line.Goals as goal
use Rattle.rec_sample.specs.Session.{head_line}

pub returns : goal.returns
unfolding head_line
returns c =
    let text =
    c.in_ok-line.ensures.text ∙ ap (λ h. compact_text (head_value h)) c.in_ok-head.ensures in
    c.in_ok-push.ensures.items ∙ ap (λ t. t ++ 10 ∷ []) text
