use Rattle.std.proofs.Common.{ap, option_and_then, option_copied, sym, ◌∙◌}
use Rattle.rec_trace.proofs.known.notes.Notes.arrow.Goals as goal
use Rattle.rec_trace.proofs.KnownMaps.{test-get}
use Rattle.rec_trace.specs.declared.known.notes.TestNotes.{TestNotes}

pub returns-in-Some : goal.returns-in-Some
returns-in-Some c =
    ap (λ o. option_and_then (λ (n : TestNotes). n.arrow) (option_copied o)) (sym c.in-Some.is)
    ∙ ap (option_and_then (λ (n : TestNotes). n.arrow))
    (c.get.ensures.value ∙ test-get c.args.self.now.tests c.args.test.now)

pub returns-in-None : goal.returns-in-None
returns-in-None c =
    ap (λ o. option_and_then (λ (n : TestNotes). n.arrow) (option_copied o)) (sym c.in-None.is)
    ∙ ap (option_and_then (λ (n : TestNotes). n.arrow))
    (c.get.ensures.value ∙ test-get c.args.self.now.tests c.args.test.now)
