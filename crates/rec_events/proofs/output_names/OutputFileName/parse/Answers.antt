use Rattle.std.proofs.Common.{◌≡◌, sym, ap, ◌∙◌, Option, Some, None, List, ℕ, IfSome}
use Rattle.rec_events.proofs.output_names.OutputFileName.parse.Goals as goal
use Rattle.rec_events.specs.declared.output_names.OutputFileName.{OutputFileName}
use Rattle.rec_events.specs.OutputNameLaws.{file_name_back, file_name_spelled}
use Rattle.rec_events.specs.OutputNames.{file_name_of, file_name_text}

pub returns-clause-complete : goal.returns-clause-complete
returns-clause-complete c =
    λ name small h. c.parse_bytes.ensures ∙ ap file_name_of (c.as_bytes.ensures.value ∙ sym h)
    ∙ file_name_back name small

spelled : (s : List ℕ) (o : Option OutputFileName) → o ≡ file_name_of s
    → IfSome o (λ name. file_name_text name ≡ s)
spelled s (Some name) h = file_name_spelled s name (sym h)
spelled s None h = tt

pub returns-clause-spelled : goal.returns-clause-spelled
returns-clause-spelled c =
    spelled c.args.text.now c.parse_bytes.result
    (c.parse_bytes.ensures ∙ ap file_name_of c.as_bytes.ensures.value)
