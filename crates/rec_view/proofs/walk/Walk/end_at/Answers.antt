use Rattle.std.proofs.Common.{refl}
use Rattle.rec_view.proofs.walk.Walk.end_at.Goals as goal
use Rattle.rec_view.proofs.Walks.{set_rows}
use Rattle.rec_view.specs.Walked.{ended}

pub returns : goal.returns
returns c = record {
  rows = set_rows c.args.self.now.tests.items c.args.index c.index_mut.result.now c.end.new.self
      (ended c.args.verdict c.args.self.now.number) c.index_mut.ensures.value c.end.ensures
      c.requires.within;
  number = refl;
  running = refl;
  told = refl;
}
