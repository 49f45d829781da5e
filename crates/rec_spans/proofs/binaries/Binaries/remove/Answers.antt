use Rattle.std.proofs.Common.{ap, ◌∙◌}
use Rattle.rec_spans.proofs.binaries.Binaries.remove.Goals as goal
use Rattle.rec_spans.proofs.Orders.{binary-remove}
use Rattle.rec_spans.specs.Opened.{without_binary}

pub returns : goal.returns
returns c =
    binary-remove c.args.id.now c.self.inside.numbers.entries c.remove.new.self.entries
    c.remove.ensures.entries
    ∙ ap (without_binary c.args.id.now) c.self.view_is
