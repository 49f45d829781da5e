use Rattle.rec_forms.proofs.Writing.{◌▸◌, saying}
use Rattle.rec_codec.proofs.event_parts.with_script.Goals as goal

pub returns : goal.returns
returns c =
    saying (λ k. (k.0, k.1.0, k.1.1.0, k.1.1.1)) (c.field-object.ensures ▸ c.optional-object.ensures
    ▸ c.field-object-2.ensures ▸ c.field.ensures)
