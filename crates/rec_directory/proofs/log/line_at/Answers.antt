use Rattle.std.proofs.Common.{sym, ◌∙◌, arith}
use Rattle.rec_codec.specs.LineView.{line_view}
use Rattle.rec_directory.proofs.LinesAfter.{next_left}
use Rattle.rec_directory.proofs.log.line_at.Goals as goal

pub returns : goal.returns
returns c =
    let after = c.after_line-after in
    record {
      line = (
        next_left c.args.log.now c.args.place after.result (line_view c.in_ok-line.line)
            c.next.new.self (sym c.new.ensures ∙ c.in_ok-line.ensures.steps)
            after.ensures.at after.ensures.number,
        after.ensures.place,
        omega (arith, after.ensures.at, c.if-place-log.false),
      );
    }
