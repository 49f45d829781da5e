use Rattle.std.proofs.Common.{◌≡◌, IsSome, None, ap, is_some, refl, subst, sym, ◌∙◌}
use Rattle.std.specs.Map.{lookup}
use Rattle.rec_events.specs.Tests.{test_eq}
use Rattle.rec_trace.proofs.Entries.{test-other}
use Rattle.rec_trace.proofs.known.notes.Notes.make_test.Goals as goal
use Rattle.rec_trace.proofs.KnownMaps.{test-absent, test-get, test-there, test-unnoted}
use Rattle.rec_trace.specs.declared.known.notes.TestNotes.{TestNotes}

pub returns-then-contains_key-clause-room : goal.returns-then-contains_key-clause-room
returns-then-contains_key-clause-room c =
    ap is_some (sym (test-get c.args.self.now.tests c.args.test.now))
    ∙ (sym c.contains_key.ensures ∙ c.if-contains_key.true)

pub returns-clause-groups : goal.returns-clause-groups
returns-clause-groups c =
    let tests = c.args.self.now.tests in
    test-unnoted c.in_ok-key.key tests c.insert.new.self _ c.in_ok-insert.ensures.updates
    (λ (n : TestNotes). n.group)
    (subst (λ t. lookup (test_eq t) tests.entries ≡ None) (sym c.in_ok-key.ensures.copy)
    (test-absent tests c.args.test.now _ c.contains_key.ensures c.if-contains_key.false))
    refl

pub returns-clause-arrows : goal.returns-clause-arrows
returns-clause-arrows c =
    let tests = c.args.self.now.tests in
    test-unnoted c.in_ok-key.key tests c.insert.new.self _ c.in_ok-insert.ensures.updates
    (λ (n : TestNotes). n.arrow)
    (subst (λ t. lookup (test_eq t) tests.entries ≡ None) (sym c.in_ok-key.ensures.copy)
    (test-absent tests c.args.test.now _ c.contains_key.ensures c.if-contains_key.false))
    refl

pub returns-clause-room : goal.returns-clause-room
returns-clause-room c =
    let tests = c.args.self.now.tests in
    subst (λ t. IsSome (lookup (test_eq t) c.insert.new.self.entries)) c.in_ok-key.ensures.copy
    (test-there c.in_ok-key.key tests c.insert.new.self _ c.in_ok-insert.ensures.updates refl)

pub returns-clause-says : goal.returns-clause-says
returns-clause-says c = λ other no says.
    test-other c.in_ok-key.key c.args.self.now.tests c.insert.new.self _
    c.in_ok-insert.ensures.updates other (ap (λ t. test_eq t other) c.in_ok-key.ensures.copy ∙ no)
    says
