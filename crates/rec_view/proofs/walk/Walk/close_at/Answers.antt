use Rattle.std.proofs.Common.{refl}
use Rattle.rec_view.proofs.walk.Walk.close_at.Goals as goal
use Rattle.rec_view.proofs.Walks.{set_rows}
use Rattle.rec_view.specs.Walked.{closed}

pub returns : goal.returns
returns c = record {
  rows = set_rows c.args.self.now.tests.items c.args.index c.index_mut.result.now c.close.new.self
      (closed c.args.self.now.number) c.index_mut.ensures.value c.close.ensures c.requires.within;
  number = refl;
  running = refl;
  told = refl;
}
