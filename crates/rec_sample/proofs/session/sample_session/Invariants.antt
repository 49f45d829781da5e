use Rattle.std.proofs.Common.{◌≡◌}
use Rattle.rec_sample.proofs.EventLines.{so_far}
use Rattle.rec_sample.proofs.session.sample_session.Given as goal

abbrev pub invariant-loop-batch : goal.invariant-loop-batch
invariant-loop-batch l = l.session.items ≡ so_far l.tests l.batch
