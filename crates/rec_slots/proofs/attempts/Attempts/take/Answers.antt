use Rattle.std.proofs.lemmas.Result.{on_ok_weaker}
use Rattle.rec_slots.proofs.attempts.Attempts.take.Goals as goal
use Rattle.rec_slots.proofs.NotedAttempts.{noted-end, noted-neither, noted-start}

pub returns-in-Starts : goal.returns-in-Starts
returns-in-Starts c = record {
  ok = on_ok_weaker c.start.result (λ starts events n is goes_on has.
      noted-start events n c.args.beat c.args.goes_on c.args.self.now c.start.new.self
      c.in-Starts.slot is c.in-Starts.is goes_on starts has)
      c.start.ensures.ok;
}

pub returns-in-Ends : goal.returns-in-Ends
returns-in-Ends c = record {
  ok = λ events n is goes_on has.
      noted-end events n c.args.beat c.args.goes_on c.args.self.now c.end.new.self c.in-Ends.slot is
      c.in-Ends.is goes_on c.end.ensures.ends has;
}

pub returns-in_default : goal.returns-in_default
returns-in_default c = record {
  ok =
      λ events n is goes_on has. noted-neither events n c.args.beat c.args.self.now
      c.in_default.not-Starts c.in_default.not-Ends is has;
}
