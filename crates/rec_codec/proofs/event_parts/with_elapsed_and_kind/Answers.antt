use Rattle.rec_forms.proofs.Writing.{◌▸◌, saying}
use Rattle.rec_codec.proofs.event_parts.with_elapsed_and_kind.Goals as goal

pub returns : goal.returns
returns c = saying (λ k. k.0) (c.field-object.ensures ▸ c.text.ensures)
