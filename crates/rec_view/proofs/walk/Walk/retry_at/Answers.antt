use Rattle.std.proofs.Common.{refl}
use Rattle.rec_view.proofs.walk.Walk.retry_at.Goals as goal
use Rattle.rec_view.proofs.Walks.{on_ok, set_rows}
use Rattle.rec_view.specs.Walked.{retried}

pub returns : goal.returns
returns c = record {
  ok = on_ok c.retry.result (λ is. record {
    rows = set_rows c.args.self.now.tests.items c.args.index c.index_mut.result.now
        c.retry.new.self (retried c.args.self.now.number) c.index_mut.ensures.value is
        c.requires.within;
    number = refl;
    running = refl;
    told = refl;
  }) c.retry.ensures.ok;
}
