use Rattle.rec_forms.proofs.Writing.{◌▸◌, saying}
use Rattle.rec_codec.proofs.status.with_before_output.Goals as goal

pub returns : goal.returns
returns g c =
    saying (λ k. record { cpu_time = k.0; delay_before_start = k.1.0; error_summary = k.1.1.0 })
    (c.optional-object.ensures ▸ c.field-object.ensures ▸ c.optional-object-2.ensures ▸
    c.field.ensures)
