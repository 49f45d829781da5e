use Rattle.std.proofs.lemmas.Result.{on_ok_weaker}
use Rattle.rec_reading.proofs.rerun.RerunSelectorEventTaker.take_event.Goals as goal

pub returns : goal.returns
returns c =
    λ start events has. on_ok_weaker c.add_event.result
    (λ takes parent none. takes parent events (has parent none)) c.add_event.ensures
