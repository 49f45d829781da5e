use Rattle.std.proofs.Common.{refl}
use Rattle.std.proofs.lemmas.Result.{err_from_is_err_and}
use Rattle.rec_trace.proofs.Same.{same-self}
use Rattle.rec_trace.proofs.tracer.Tracer.prepare.Goals as goal
use Rattle.rec_trace.specs.declared.tracer.Tracer.{Tracer}
use Rattle.rec_trace.specs.KnownNews.{known_in}
use Rattle.rec_trace.specs.Steps.{StaysSame}

same : (t : Tracer) → StaysSame t t
same t = record {
  group = refl;
  version = refl;
  stands = refl;
  knows = same-self (known_in t.known);
  each_says = λ says. says;
}

pub returns-in_err-judged-clause-judged : goal.returns-in_err-judged-clause-judged
returns-in_err-judged-clause-judged g c =
    let p = err_from_is_err_and c.from_residual.result c.from_residual.ensures.1 in
    rw (p.1, p.2) c.in_err-judged.ensures.judged

pub returns-in_err-judged-clause-err : goal.returns-in_err-judged-clause-err
returns-in_err-judged-clause-err g c =
    let p = err_from_is_err_and c.from_residual.result c.from_residual.ensures.1 in
    rw (p.1) (same c.args.self.now)
