use Rattle.std.proofs.Common.{refl, sym, ◌∙◌}
use Rattle.rec_trace.proofs.Entries.{test-said}
use Rattle.rec_trace.proofs.known.notes.Notes.replace.Goals as goal
use Rattle.rec_trace.proofs.KnownMaps.{no_some, test-get, test-noted}
use Rattle.rec_trace.specs.declared.known.notes.TestNotes.{TestNotes}

pub unreachable-requires : goal.unreachable-requires
unreachable-requires c =
    no_some _ (sym (test-get c.args.self.now.tests c.args.test) ∙ c.in_default.ensures.absent)
    c.requires

pub returns-clause-groups : goal.returns-clause-groups
returns-clause-groups c =
    test-noted c.args.test c.args.self.now.tests c.insert.new.self _ c.in-Ok.ensures.updates
    (λ (n : TestNotes). n.group) c.args.notes.group refl

pub returns-clause-arrows : goal.returns-clause-arrows
returns-clause-arrows c =
    test-noted c.args.test c.args.self.now.tests c.insert.new.self _ c.in-Ok.ensures.updates
    (λ (n : TestNotes). n.arrow) c.args.notes.arrow refl

pub returns-clause-says : goal.returns-clause-says
returns-clause-says c =
    λ say.
    test-said c.args.test c.args.self.now.tests c.insert.new.self _ c.in-Ok.ensures.updates say
