use Rattle.rec_view.proofs.laws.scripts_as_spans.Goals as goal
use Rattle.rec_view.proofs.ScriptSpans.{script_span_is}

pub returns : goal.returns
returns g c = λ group events s is. script_span_is group events s is
