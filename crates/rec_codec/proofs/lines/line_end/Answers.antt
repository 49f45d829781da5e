use Rattle.rec_codec.proofs.LineLemmas.{first_newline}
use Rattle.rec_codec.proofs.lines.line_end.Goals as goal

pub returns : goal.returns
returns c = first_newline c.args.bytes.now c.memchr.result c.memchr.ensures
