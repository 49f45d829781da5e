use Rattle.std.proofs.Common.{OnOk, subst, sym}
use Rattle.rec_view.proofs.walk.Walk.take_act.Goals as goal
use Rattle.rec_view.proofs.Walks.{fails, on_ok, running_within, skips}
use Rattle.rec_view.specs.Seen.{seen}
use Rattle.rec_view.specs.Walked.{Takes}

pub start-requires : goal.start-requires
start-requires c = record {
  within =
      running_within c.requires.walked.0 c.args.self.now c.requires.walked.1 c.in-Starts.test.now;
}

pub retry-requires : goal.retry-requires
retry-requires c = record {
  within =
      running_within c.requires.walked.0 c.args.self.now c.requires.walked.1 c.in-Retries.test.now;
}

pub close-requires : goal.close-requires
close-requires c = record {
  within =
      running_within c.requires.walked.0 c.args.self.now c.requires.walked.1 c.in-Fails.test.now;
}

pub end-requires : goal.end-requires
end-requires c = record {
  within =
      running_within c.requires.walked.0 c.args.self.now c.requires.walked.1 c.in-Ends.test.now;
}

pub returns-in-Fails : goal.returns-in-Fails
returns-in-Fails c = record {
  ok =
      subst (λ act. Takes (seen act) c.args.self.now c.close.new.self) (sym c.in-Fails.is)
      (fails c.args.self.now c.close.new.self c.in-Fails.test.now c.close.ensures);
}

pub returns-in-Skips : goal.returns-in-Skips
returns-in-Skips c = record {
  ok =
      subst (λ act. OnOk c.add.result (Takes (seen act) c.args.self.now c.add.new.self))
      (sym c.in-Skips.is)
      (on_ok c.add.result (λ h. skips c.args.self.now c.add.new.self c.in-Skips.test.now h)
      c.add.ensures.ok);
}
