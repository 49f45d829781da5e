use Rattle.std.proofs.Common.{ap, ◌∙◌}
use Rattle.rec_trace.proofs.Same.{same-from, same-is}
use Rattle.rec_trace.proofs.tracer.Tracer.accept.Goals as goal
use Rattle.rec_trace.specs.KnownNews.{known_with}

pub returns : goal.returns
returns g c = λ before p. record {
  group = p.group;
  version = p.version;
  stands = c.advance.ensures before.group_by before.tracker p.opened p.stands;
  knows =
      same-from (same-is c.take.ensures.known
      ∙ ap (known_with c.args.prepared.news) (same-is p.knows) ∙ same-is p.told);
  each_says = λ says. c.take.ensures.says (p.each_says says);
}
