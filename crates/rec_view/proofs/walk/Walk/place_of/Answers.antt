use Rattle.std.proofs.Common.{◌∙◌}
use Rattle.rec_spans.proofs.Orders.{slot-get}
use Rattle.rec_view.proofs.walk.Walk.place_of.Goals as goal

pub returns : goal.returns
returns c =
    c.copied.ensures ∙ c.get.ensures.value ∙ slot-get c.args.self.now.running c.args.test.now
