use Rattle.std.proofs.Common.{◌++◌, map, refl, subst}
use Rattle.rec_trace_events.specs.EventTexts.{event_value}
use Rattle.rec_trace.proofs.printed_trace.PrintedTrace.print.Goals as goal
use Rattle.rec_trace.specs.Kept.{AreKept}

pub returns-in-Ok : goal.returns-in-Ok
returns-in-Ok g c = λ before p. (
  c.accept.ensures before p,
  λ format kept are.
      subst (λ events. AreKept format (kept ++ map event_value events) c.put_all-put.new.self)
      c.deref.ensures.value (c.in-Ok.ensures.all format kept are),
)

pub returns-in-Err : goal.returns-in-Err
returns-in-Err g c = λ before p. (refl, (c.let_go.ensures before p, c.in-Err.ensures.same))
