use Rattle.rec_trace.proofs.convert.convert_to_chrome_trace.Given as goal
use Rattle.rec_trace.proofs.Converting.{HasConverted}

abbrev pub invariant-loop-item : goal.invariant-loop-item
invariant-loop-item g l = record {
  converted : HasConverted l.fn.message_format l.fn.group_by l.fn.version l.yielded l.trace;
}
