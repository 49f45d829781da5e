use Rattle.std.proofs.Common.{arith}
use Rattle.rec_forms.proofs.Writing.{◌▸◌, saying}
use Rattle.rec_forms.specs.NumberLaws.{u32_writable}
use Rattle.rec_forms.specs.Writable.{string_writable, weaker}
use Rattle.rec_trace_events.proofs.attempt_args.with_last_fields.Goals as goal
use Rattle.rec_trace_events.proofs.WritableArgs.{duration_written}

pub returns : goal.returns
returns g c =
    saying
    (λ known. (
      known.0,
      (
        weaker 0 7 (omega arith) known.1.0,
        (
          string_writable _ known.1.1.0,
          (duration_written _ known.1.1.1.0, (u32_writable _ known.1.1.1.1, tt)),
        ),
      ),
    ))
    (c.with_stress_index-object.ensures ▸ c.with_group-object.ensures ▸ c.field-object.ensures ▸
    c.field-object-2.ensures ▸ c.field.ensures)
