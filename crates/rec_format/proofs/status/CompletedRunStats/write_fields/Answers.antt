use Rattle.rec_forms.proofs.Writing.{◌▸◌, saying}
use Rattle.rec_format.proofs.status.CompletedRunStats.write_fields.Goals as goal

pub returns : goal.returns
returns c =
    saying
    (λ k.
    record { exit_code = k.0; failed = k.1.0; initial_run_count = k.1.1.0; passed = k.1.1.1.0 })
    (c.field-object.ensures ▸ c.field-object-2.ensures ▸ c.field-object-3.ensures ▸
    c.field-object-4.ensures ▸ c.write_status.ensures)
