use Rattle.rec_forms.proofs.Writing.{◌▸◌, saying}
use Rattle.rec_view_json.proofs.counts.with_judged.Goals as goal

pub returns : goal.returns
returns c =
    saying (λ _. tt)
    (c.field-object.ensures ▸ c.field-object-2.ensures ▸ c.field-object-3.ensures ▸
    c.field.ensures)
