use Rattle.rec_json.specs.Nodes.{view}
use Rattle.rec_codec.proofs.event.event_from_node.Goals as goal
use Rattle.rec_codec.proofs.ReadEventLaws.{given_well_formed}
use Rattle.rec_codec.specs.EventFormLaws.{event_well_formed}
use Rattle.rec_codec.specs.EventForms.{event_form, IsEvent}

pub returns-clause-known : goal.returns-clause-known
returns-clause-known g c =
    given_well_formed (IsEvent g.S.OutputForm.output_well_formed)
    (event_form g.S.OutputForm.output_form)
    (event_well_formed g.S.OutputForm.output_well_formed g.S.OutputForm.output_form
    g.met.S.OutputForm.output_reads_well_formed)
    (view c.args.node.now) c.event_from.result c.event_from.ensures
