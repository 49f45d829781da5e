use Rattle.rec_forms.proofs.Writing.{◌▸◌, saying}
use Rattle.rec_forms.specs.Writable.{boolean_writable}
use Rattle.rec_trace_events.proofs.attempt_args.with_middle_fields.Goals as goal
use Rattle.rec_trace_events.proofs.WritableAttempts.{flaky_result_written, result_written}

pub returns : goal.returns
returns g c =
    saying
    (λ known. (
      known.0,
      (
        known.1.0,
        (flaky_result_written _, (boolean_writable _, (result_written _ known.1.1.1.1, tt))),
      ),
    ))
    (c.with_delay-object.ensures ▸ c.in_ok-object.ensures ▸ c.optional-object.ensures ▸
    c.field-object.ensures ▸ c.field.ensures)
