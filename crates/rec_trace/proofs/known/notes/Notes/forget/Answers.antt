use Rattle.std.proofs.Common.{None, refl}
use Rattle.rec_trace.proofs.Entries.{test-said}
use Rattle.rec_trace.proofs.known.notes.Notes.forget.Goals as goal
use Rattle.rec_trace.proofs.KnownMaps.{test-noted}
use Rattle.rec_trace.specs.declared.known.notes.TestNotes.{TestNotes}

pub returns-clause-groups : goal.returns-clause-groups
returns-clause-groups c =
    test-noted c.args.test.now c.args.self.now.tests c.remove.new.self None c.remove.ensures.updates
    (λ (n : TestNotes). n.group) None refl

pub returns-clause-arrows : goal.returns-clause-arrows
returns-clause-arrows c =
    test-noted c.args.test.now c.args.self.now.tests c.remove.new.self None c.remove.ensures.updates
    (λ (n : TestNotes). n.arrow) None refl

pub returns-clause-says : goal.returns-clause-says
returns-clause-says c =
    test-said c.args.test.now c.args.self.now.tests c.remove.new.self None c.remove.ensures.updates
    tt
