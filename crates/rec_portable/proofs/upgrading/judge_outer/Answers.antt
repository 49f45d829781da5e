use Rattle.std.proofs.Common.{List, subst}
use Rattle.rec_container.specs.Container.{Entry}
use Rattle.rec_portable.proofs.upgrading.judge_outer.Goals as goal
use Rattle.rec_portable.specs.Rewriting.{Judges}
use Rattle.rec_portable.specs.Upgrading.{names_judged}

pub returns : goal.returns
returns c =
    λ es is. subst (λ (fs : List Entry). Judges (names_judged fs) c.judge_names-judged.result)
    (c.in_ok-outer.ensures es is) c.judge_names-judged.ensures
