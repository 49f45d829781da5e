use Rattle.std.proofs.Common.{None, refl}
use Rattle.rec_trace.proofs.Entries.{test-said, test-says}
use Rattle.rec_trace.proofs.known.notes.Notes.let_go_test.Goals as goal
use Rattle.rec_trace.proofs.KnownMaps.{test-forgotten}
use Rattle.rec_trace.specs.declared.known.notes.TestNotes.{TestNotes}

pub returns-then-says_nothing-clause-groups : goal.returns-then-says_nothing-clause-groups
returns-then-says_nothing-clause-groups c =
    test-forgotten c.args.test.now c.args.self.now.tests c.remove.new.self None
    c.remove.ensures.updates (λ (n : TestNotes). n.group) refl
    (c.says_nothing.ensures.group c.if-says_nothing.true)

pub returns-then-says_nothing-clause-arrows : goal.returns-then-says_nothing-clause-arrows
returns-then-says_nothing-clause-arrows c =
    test-forgotten c.args.test.now c.args.self.now.tests c.remove.new.self None
    c.remove.ensures.updates (λ (n : TestNotes). n.arrow) refl
    (c.says_nothing.ensures.arrow c.if-says_nothing.true)

pub returns-then-says_nothing-clause-says : goal.returns-then-says_nothing-clause-says
returns-then-says_nothing-clause-says c =
    test-said c.args.test.now c.args.self.now.tests c.remove.new.self None c.remove.ensures.updates
    tt

pub returns-else-says_nothing-clause-says : goal.returns-else-says_nothing-clause-says
returns-else-says_nothing-clause-says c =
    test-says c.args.test.now c.args.self.now.tests
    (c.says_nothing.ensures.says c.if-says_nothing.false)
