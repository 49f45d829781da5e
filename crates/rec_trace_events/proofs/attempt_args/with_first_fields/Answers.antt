use Rattle.rec_forms.proofs.Writing.{◌▸◌, saying}
use Rattle.rec_forms.specs.NumberLaws.{u32_writable}
use Rattle.rec_forms.specs.Writable.{string_writable}
use Rattle.rec_trace_events.proofs.attempt_args.with_first_fields.Goals as goal
use Rattle.rec_trace_events.proofs.WritableAttempts.{cpu_time_written}

pub returns : goal.returns
returns g c =
    saying
    (λ known.
    (u32_writable _ known.0, (string_writable _ known.1.0, (cpu_time_written _ known.1.1, tt))))
    (c.field.ensures ▸ c.field-2.ensures ▸ c.optional.ensures)
