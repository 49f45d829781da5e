use Rattle.std.proofs.Common.{ap, ◌∙◌}
use Rattle.rec_spans.proofs.binaries.Binaries.number.Goals as goal
use Rattle.rec_spans.proofs.Orders.{binary-get}
use Rattle.rec_spans.specs.Past.{number_of}

pub returns : goal.returns
returns c =
    c.copied.ensures ∙ c.get.ensures.value ∙ binary-get c.self.inside.numbers c.args.id.now
    ∙ ap (number_of c.args.id.now) c.self.view_is
