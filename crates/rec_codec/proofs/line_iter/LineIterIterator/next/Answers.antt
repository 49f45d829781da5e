use Rattle.std.proofs.Common.{◌≡◌, ◌<◌, ◌∷◌, length, sym, ap, ◌∙◌, arith}
use Rattle.rec_codec.proofs.line_iter.LineIterIterator.next.Goals as goal
use Rattle.rec_codec.proofs.LineItemLemmas.{length-left_after, same_past_blank}
use Rattle.rec_codec.proofs.LineItemLemmas.{gives_item, gives_none}
use Rattle.rec_codec.specs.EventForms.{event_form}
use Rattle.rec_codec.specs.LineView.{line_view}

pub loop-line-smaller : goal.loop-line-smaller
loop-line-smaller g c =
    let split : c.loop-line.self ≡ line_view c.in-Some.line ∷ c.next.new.self =
    sym c.self.view_is ∙ c.in-Some.ensures.steps in
    omega (arith, ap length split)

pub loop-line-preserved : goal.loop-line-preserved
loop-line-preserved g c =
    let split : c.loop-line.self ≡ line_view c.in-Some.line ∷ c.next.new.self =
    sym c.self.view_is ∙ c.in-Some.ensures.steps in
    record {
      same =
          same_past_blank
          (event_form {S = g.row.S.Denot} g.S.OutputForm.output_form)
          (line_view c.in-Some.line)
          c.loop-line.self
          c.next.new.self
          c.args.self.now
          c.read_line.result
          c.loop-line.invariant.same
          split
          c.in_default-read_line.is
          c.read_line.ensures;
      shorter = omega (arith, ap length split, c.loop-line.invariant.shorter);
    }

pub returns-in-Some-read_line-clause-steps : goal.returns-in-Some-read_line-clause-steps
returns-in-Some-read_line-clause-steps g c =
    gives_item
    (event_form {S = g.row.S.Denot} g.S.OutputForm.output_form)
    (line_view c.in-Some.line)
    c.loop-line.self
    c.next.new.self
    c.args.self.now
    c.end_where_out_of_memory.new.self
    c.read_line.result
    c.in-Some-read_line.item
    c.loop-line.invariant.same
    (sym c.self.view_is ∙ c.in-Some.ensures.steps)
    c.in-Some-read_line.is
    c.read_line.ensures
    c.end_where_out_of_memory.ensures

pub returns-in-Some-read_line-clause-goes : goal.returns-in-Some-read_line-clause-goes
returns-in-Some-read_line-clause-goes g c =
    let split : c.loop-line.self ≡ line_view c.in-Some.line ∷ c.next.new.self =
    sym c.self.view_is ∙ c.in-Some.ensures.steps in
    let fewer : length c.end_where_out_of_memory.new.self < length c.args.self.now =
    omega (
      arith,
      ap length split,
      ap length c.end_where_out_of_memory.ensures,
      length-left_after c.in-Some-read_line.item c.next.new.self,
      c.loop-line.invariant.shorter,
    ) in
    record { on = λ _. (tt, tt, fewer); keeps = tt; rests = λ _. tt }

pub returns-clause-steps : goal.returns-clause-steps
returns-clause-steps g c =
    gives_none
    (event_form {S = g.row.S.Denot} g.S.OutputForm.output_form)
    c.loop-line.self
    c.args.self.now
    c.next.new.self
    c.loop-line.invariant.same
    (sym c.self.view_is ∙ c.in_default.ensures.steps.0)
    c.in_default.ensures.steps.1
