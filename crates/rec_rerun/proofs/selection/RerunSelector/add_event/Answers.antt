use Rattle.std.proofs.lemmas.Result.{on_ok_weaker}
use Rattle.rec_rerun.proofs.LastPlaces.{taken-more}
use Rattle.rec_rerun.proofs.selection.RerunSelector.add_event.Goals as goal

pub returns : goal.returns
returns c = on_ok_weaker c.take.result
    (λ takes parent events has. taken-more parent events c.args.event.now _
    c.args.self.now.standings.tests c.take.new.self.tests c.act_of.ensures takes has)
    c.take.ensures.ok
