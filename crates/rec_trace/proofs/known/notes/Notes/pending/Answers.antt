use Rattle.std.proofs.Common.{◌≡◌, ◌+◌, is_some, subst, arith}
use Rattle.std.specs.List.{count_by}
use Rattle.std.specs.Map.{lookup, values_of}
use Rattle.rec_events.proofs.TestOrder.{test_eq-self, test_eq-true}
use Rattle.rec_events.specs.Tests.{test_eq}
use Rattle.rec_trace.proofs.Counting.{counted, equivalence}
use Rattle.rec_trace.proofs.known.notes.Notes.pending.Goals as goal
use Rattle.rec_trace.proofs.KnownMaps.{test-passes, tests-once}
use Rattle.rec_trace.specs.declared.known.notes.TestNotes.{TestNotes}
use Rattle.rec_trace.specs.KnownMaps.{arrow_noted}

pub returns : goal.returns
returns c =
    let map = c.args.self.now.tests in
    let count = c.loop-notes.count in
    let all : count + 0 ≡ count_by (λ (n : TestNotes). is_some n.arrow) (values_of map.entries) =
    subst (λ xs. count + count_by (λ (n : TestNotes). is_some n.arrow) xs
    ≡ count_by (λ (n : TestNotes). is_some n.arrow) (values_of map.entries))
    c.in-None.ensures.steps.0 c.loop-notes.invariant in
    counted test_eq (λ (n : TestNotes). is_some n.arrow) map.entries
    (λ test. is_some (arrow_noted c.args.self.now test)) count
    (equivalence test_eq test_eq-self test_eq-true) (tests-once map c.len-tests.ensures.ordered)
    (λ k. test-passes (lookup (test_eq k) map.entries)) (omega arith)
