use Rattle.std.proofs.Common.{ap, refl, subst, suc, sym, ◌∙◌}
use Rattle.rec_spans.specs.History.{TraceState}
use Rattle.rec_spans.specs.Plain.{plain, plain_kind}
use Rattle.rec_trace.proofs.Same.{same-trans}
use Rattle.rec_trace.proofs.tracer.Tracer.open.Goals as goal
use Rattle.rec_trace.specs.KnownNews.{Tells, known_in}
use Rattle.rec_trace.specs.Steps.{seen_by}

pub returns-in-Ok-open_started-clause-ok : goal.returns-in-Ok-open_started-clause-ok
returns-in-Ok-open_started-clause-ok g c =
    let old = c.args.self.now in
    let event = plain c.args.event.now in
    record {
      group = refl;
      version = refl;
      opened = c.in-Ok-open_started.ensures.opened;
      stands = c.in-Ok-open_started.ensures.ok;
      knows = c.prepare.ensures.same;
      told =
          subst
          (λ flow. Tells flow c.args.judged.started (plain_kind c.args.event.now.kind) c.in-Ok.news)
          c.next_flow-flow.ensures c.in-Ok.ensures.tells
          (seen_by old event) c.requires.starts refl (known_in old.known);
      has_room = c.in-Ok.ensures.room;
      each_says = c.in-Ok.ensures.says;
      numbered =
          c.in-Ok-open_started.ensures.opened.numbered
          ∙ ap suc (sym (ap (λ (t : TraceState). t.number) c.in-Ok-open_started.ensures.ok));
    }

pub returns-in-Err-clause-err : goal.returns-in-Err-clause-err
returns-in-Err-clause-err g c = record {
  group = refl;
  version = refl;
  stands = c.in-Err.ensures.err;
  knows = same-trans c.let_go.ensures.same c.prepare.ensures.same;
  each_says = λ says. c.let_go.ensures.says (c.in-Ok.ensures.says says);
}
