use Rattle.std.proofs.Common.{◌≡◌, ◌∷◌, ◌++◌, ◌∙◌, sym, ap, map, not, Bool, rules}
use Rattle.std.specs.List.{filter}
use Rattle.rec_events.specs.declared.instances.OwnedTestInstanceId.{OwnedTestInstanceId}
use Rattle.rec_events.specs.Tests.{test_of}
use Rattle.rec_rerun.proofs.Parts.{unseen_suite}
use Rattle.rec_rerun.proofs.plan.gone_of.Goals as goal
use Rattle.rec_rerun.specs.Planned.{is_seen}
use Rattle.rec_rerun.specs.Plans.{outstanding_in}

pub loop-suite-preserved : goal.loop-suite-preserved
loop-suite-preserved c =
    let unseen : OwnedTestInstanceId → Bool = λ t. not (is_seen c.args.seen.now t) in
    let suite = c.in-Some.suite.now in
    let step : c.loop-suite.suite-iterator ≡ suite ∷ c.next.new.self = search rules in
    ap (λ gone. gone ++ filter unseen (outstanding_in c.next.new.self)) c.in_ok-add_gone.ensures.ok
    ∙ unseen_suite unseen c.loop-suite.gone.items (map (test_of suite.binary_id) suite.outstanding)
    (outstanding_in c.next.new.self)
    ∙ ap (λ ss. c.loop-suite.gone.items ++ filter unseen (outstanding_in ss)) (sym step)
    ∙ c.loop-suite.invariant
