use Rattle.std.proofs.Common.{◌≤◌, length}
use Rattle.rec_codec.proofs.line_iter.LineIterIterator.next.Given as goal
use Rattle.rec_codec.proofs.LineItemLemmas.{GivesSame}
use Rattle.rec_codec.specs.EventForms.{event_form}

-- what is left gives what all gave
abbrev pub invariant-loop-line : goal.invariant-loop-line
invariant-loop-line g l = record {
  same : GivesSame (event_form {S = g.row.S.Denot} g.S.OutputForm.output_form) l.self l.fn.self;
  shorter : length l.self ≤ length l.fn.self;
}

abbrev pub decreases-loop-line : goal.decreases-loop-line
decreases-loop-line g l = length l.self
