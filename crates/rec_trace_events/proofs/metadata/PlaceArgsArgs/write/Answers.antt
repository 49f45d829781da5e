use Rattle.std.proofs.lemmas.Result.{on_ok_weaker}
use Rattle.rec_forms.proofs.Writing.{all_written}
use Rattle.rec_trace_events.proofs.metadata.PlaceArgsArgs.write.Goals as goal
use Rattle.rec_trace_events.proofs.WritableArgs.{place_written}

-- what each call wrote
pub returns-clause-written : goal.returns-clause-written
returns-clause-written c = c.end.ensures.written _ _ (all_written c.begin.ensures (c.field.ensures))

pub returns-clause-known : goal.returns-clause-known
returns-clause-known c =
    on_ok_weaker c.end.result (λ all. place_written _ (c.field.ensures.known all))
    c.end.ensures.goes
