use Rattle.std.proofs.Common.{◌≡◌, ◌+◌, is_some}
use Rattle.std.specs.List.{count_by}
use Rattle.std.specs.Map.{values_of}
use Rattle.rec_trace.proofs.known.notes.Notes.pending.Given as goal
use Rattle.rec_trace.specs.declared.known.notes.TestNotes.{TestNotes}

-- what is left completes the count
abbrev pub invariant-loop-notes : goal.invariant-loop-notes
invariant-loop-notes l =
    l.count + count_by (λ (n : TestNotes). is_some n.arrow) l.notes-iterator
    ≡ count_by (λ (n : TestNotes). is_some n.arrow) (values_of l.fn.self.tests.entries)
