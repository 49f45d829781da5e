use Rattle.std.proofs.Common.{◌∙◌, sym, ap, Some}
use Rattle.std.specs.Str.{trim}
use Rattle.rec_codec.proofs.LineLemmas.{text_of-utf8, text_of-other}
use Rattle.rec_codec.proofs.lines.Line.text.Goals as goal

pub returns-in-Ok : goal.returns-in-Ok
returns-in-Ok c =
    ap Some (c.trim.ensures.trim ∙ ap trim c.in-Ok.ensures.cases.0)
    ∙ sym (text_of-utf8 c.args.self.now.bytes.now c.in-Ok.ensures.cases.1)

pub returns-in-Err : goal.returns-in-Err
returns-in-Err c = sym (text_of-other c.args.self.now.bytes.now c.in-Err.ensures.cases.0)
