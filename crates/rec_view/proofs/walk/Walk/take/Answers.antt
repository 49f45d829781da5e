use Rattle.std.proofs.Common.{refl}
use Rattle.rec_view.proofs.walk.Walk.take.Goals as goal
use Rattle.rec_view.proofs.Walks.{walked_more}
use Rattle.rec_view.specs.Seen.{seen}

pub returns : goal.returns
returns c =
    record {
      ok =
          λ before has. walked_more before
          (seen c.args.event) c.args.self.now c.take_act.new.self c.tell.new.self _ has
          c.in_ok-take_act.ensures.ok c.in_ok-tell.ensures.ok refl refl refl refl;
    }
