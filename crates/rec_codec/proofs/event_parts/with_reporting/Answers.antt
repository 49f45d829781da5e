use Rattle.rec_forms.proofs.Writing.{◌▸◌, saying}
use Rattle.rec_codec.proofs.event_parts.with_reporting.Goals as goal

pub returns : goal.returns
returns c =
    saying (λ k. tt)
    (c.field-object.ensures ▸ c.field-object-2.ensures ▸ c.field-object-3.ensures ▸ c.field.ensures)
