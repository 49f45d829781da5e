use Rattle.std.specs.Prelude.{refl}
use Rattle.rec_forms.proofs.Writing.{◌▸◌, object_written}
use Rattle.rec_trace_events.proofs.members.with_index.Goals as goal
use Rattle.rec_trace_events.proofs.WritableArgs.{index_written}

pub returns : goal.returns
returns c =
    object_written _ c.open-object.ensures.goes c.open-object.ensures.opened c.close.ensures.goes
    c.close.ensures.closed refl
    (λ known. index_written _ known.0 known.1)
    (c.field-object.ensures ▸ c.with_total-object.ensures)
