use Rattle.rec_codec.proofs.event.event_to_value.Goals as goal
use Rattle.rec_codec.specs.EventFormLaws.{event_back}

pub returns-clause-reads_back : goal.returns-clause-reads_back
returns-clause-reads_back g c =
    rw c.in_ok-value.ensures.written.0
    (event_back g.S.OutputForm.output_well_formed g.S.OutputForm.output_value
    g.S.OutputForm.output_form g.met.S.OutputForm.output_reads_back c.args.event.now
    c.in_ok-value.ensures.known)
