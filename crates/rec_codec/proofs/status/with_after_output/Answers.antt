use Rattle.rec_forms.proofs.Writing.{◌▸◌, saying}
use Rattle.rec_codec.proofs.status.with_after_output.Goals as goal

pub returns : goal.returns
returns g c =
    saying (λ k. record {
      output_error_slice = k.0;
      result = k.1.0;
      retry_data = k.1.1.0;
      start_time = k.1.1.1.0;
      time_taken = k.1.1.1.1;
    })
    (c.optional-object.ensures ▸ c.field-object.ensures ▸ c.field-object-2.ensures ▸
    c.field-object-3.ensures ▸ c.field.ensures)
