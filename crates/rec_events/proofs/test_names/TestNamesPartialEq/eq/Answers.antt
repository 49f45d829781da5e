use Rattle.std.proofs.Common.{ap, ◌∙◌}
use Rattle.std.specs.Cmp.Lexicographic.{pointwise}
use Rattle.std.specs.Prelude.{◌==◌}
use Rattle.rec_events.proofs.test_names.TestNamesPartialEq.eq.Goals as goal
use Rattle.rec_events.specs.Names.{texts}
use Rattle.rec_events.specs.PairLaws.{texts-eq}

pub returns : goal.returns
returns c =
    c.eq.ensures
    ∙ texts-eq c.self.inside.inner.keys c.other.inside.inner.keys
    ∙ ap (λ ks. pointwise (pointwise ◌==◌) ks (texts c.other.inside.inner.keys)) c.self.view_is
    ∙ ap (pointwise (pointwise ◌==◌) c.args.self.now) c.other.view_is
