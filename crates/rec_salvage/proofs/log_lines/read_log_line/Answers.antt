use Rattle.std.proofs.Common.{Option, sym, subst}
use Rattle.std.proofs.lemmas.Result.{IfOk-weaker}
use Rattle.rec_codec.specs.Event.{RecordedEvent, line_event}
use Rattle.rec_codec.specs.Lines.{text_of}
use Rattle.rec_salvage.proofs.log_lines.read_log_line.Goals as goal
use Rattle.rec_salvage.proofs.ReadLines.{blank_line, item_line}
use Rattle.rec_salvage.specs.declared.log_lines.LogLine.TheVariants.{Blank}
use Rattle.rec_salvage.specs.Gathering.{IsRead, IsReadItem}

pub returns-in-Some : goal.returns-in-Some
returns-in-Some c =
    let text = text_of c.args.line.now in
    let item = c.in-Some.item in
    IfOk-weaker c.line_of_item.result (IsReadItem item) (IsRead (line_event text))
    (λ line read. item_line item 1 text line c.in-Some.ensures.0 c.in-Some.ensures.1 read)
    c.line_of_item.ensures

pub returns-in-None : goal.returns-in-None
returns-in-None c =
    subst (λ (o : Option (Option RecordedEvent)). IsRead o Blank)
    (sym (blank_line (text_of c.args.line.now) c.in-None.ensures)) tt
