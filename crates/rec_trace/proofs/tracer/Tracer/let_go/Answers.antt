use Rattle.rec_trace.proofs.Same.{same-trans}
use Rattle.rec_trace.proofs.tracer.Tracer.let_go.Goals as goal

pub returns : goal.returns
returns g c = λ before p. record {
  group = p.group;
  version = p.version;
  stands = c.take_back.ensures before.group_by before.tracker p.opened p.stands;
  knows = same-trans c.let_go.ensures.same p.knows;
  each_says = λ says. c.let_go.ensures.says (p.each_says says);
}
