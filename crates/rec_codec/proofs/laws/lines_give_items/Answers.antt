use Rattle.rec_codec.proofs.laws.lines_give_items.Goals as goal
use Rattle.rec_codec.proofs.LineReadings.{drained, failed, yielded}
use Rattle.rec_codec.specs.EventForms.{event_form}

pub returns-clause-drained : goal.returns-clause-drained
returns-clause-drained g c = drained (event_form {S = g.row.S.Denot} g.S.OutputForm.output_form)

pub returns-clause-failed : goal.returns-clause-failed
returns-clause-failed g c =
    λ events all rest fault.
    failed (event_form {S = g.row.S.Denot} g.S.OutputForm.output_form) events all rest fault

pub returns-clause-yielded : goal.returns-clause-yielded
returns-clause-yielded g c = yielded (event_form {S = g.row.S.Denot} g.S.OutputForm.output_form)
