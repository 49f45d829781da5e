use Rattle.std.proofs.Common.{sym, ap, ◌∙◌}
use Rattle.rec_container.proofs.Unique.{one_reading_spec, no_fault, one_fault}
use Rattle.rec_portable.proofs.laws.one_judgement.Goals as goal
use Rattle.rec_portable.specs.declared.errors.PortableRecordingReadError.TheVariants.{ReadArchive}
use Rattle.rec_portable.specs.Judging.{judged}

pub returns-clause-entries : goal.returns-clause-entries
returns-clause-entries c bytes limit r s h g =
    sym h.2 ∙ ap (judged limit) (one_reading_spec bytes h.0 g.0 h.1 g.1) ∙ g.2

pub returns-clause-fault : goal.returns-clause-fault
returns-clause-fault c bytes e f h g =
    h.1 ∙ ap ReadArchive (one_fault bytes h.0 g.0 h.2 g.2) ∙ sym g.1

pub returns-clause-either : goal.returns-clause-either
returns-clause-either c bytes limit r e h g = no_fault bytes h.0 g.0 h.1 g.2
