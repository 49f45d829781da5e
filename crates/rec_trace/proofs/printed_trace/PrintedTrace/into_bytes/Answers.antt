use Rattle.std.proofs.Common.{ap, ◌∙◌}
use Rattle.std.proofs.lemmas.Result.{IfOk-weaker}
use Rattle.rec_trace.proofs.printed_trace.PrintedTrace.into_bytes.Goals as goal
use Rattle.rec_trace.proofs.PrintedTimelines.{prints-timeline}
use Rattle.rec_trace.proofs.TextsOfTraces.{IfOk-both, trace-read, trace-written}
use Rattle.rec_trace.specs.Known.{Known}

pub returns-clause-written : goal.returns-clause-written
returns-clause-written c =
    IfOk-weaker c.into_bytes-text.result _ _
    (λ s written format g version events traced. trace-written format g version events
    c.args.self.printed c.version.result.now c.last_run.result.now s.items
    (c.version.ensures ∙ traced.tracer.version_kept)
    (c.last_run.ensures ∙ ap (λ (k : Known). k.last_run) traced.tracer.knows) written traced.kept)
    c.into_bytes-text.ensures.written

pub returns-clause-printed : goal.returns-clause-printed
returns-clause-printed c =
    IfOk-both c.into_bytes-text.result _ _ _
    (λ s written known format g version events traced.
    prints-timeline version g events s.items traced.tracer.accepted
    (trace-read format g version events c.args.self.printed c.version.result.now
    c.last_run.result.now s.items written known traced.kept))
    c.into_bytes-text.ensures.written c.into_bytes-text.ensures.known
