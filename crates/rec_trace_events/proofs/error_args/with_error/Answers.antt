use Rattle.std.specs.Prelude.{refl}
use Rattle.rec_forms.proofs.Writing.{◌▸◌, object_written}
use Rattle.rec_trace_events.proofs.error_args.with_error.Goals as goal
use Rattle.rec_trace_events.proofs.WritableArgs.{error_written}

pub returns : goal.returns
returns c =
    object_written _ c.open.ensures.goes c.open.ensures.opened c.close.ensures.goes
    c.close.ensures.closed refl
    (λ known. error_written _ _ known.1 known.0)
    (c.text.ensures ▸ c.text-2.ensures)
