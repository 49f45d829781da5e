use Rattle.std.proofs.Common.{◌≡◌, ◌∷◌, ◌++◌, [], ◌∙◌, sym, ap, map, subst, rules, append_assoc}
use Rattle.rec_events.specs.Pairs.{pairs}
use Rattle.rec_events.specs.Tests.{test_of}
use Rattle.rec_rerun.proofs.Parts.{append-nil}
use Rattle.rec_rerun.proofs.plan.plan_list.Goals as goal
use Rattle.rec_rerun.specs.Planned.{HasPlanned}
use Rattle.rec_rerun.specs.Plans.{tests_in}

pub loop-binary-init : goal.loop-binary-init
loop-binary-init c = (
  [],
  c.new-planned.ensures c.args.info.now,
  ap tests_in (ap pairs c.into_iter-binary-iterator.ensures.into_iter_gives.0
      ∙ c.as_map-binary-items.ensures.pairs),
)

pub loop-binary-preserved : goal.loop-binary-preserved
loop-binary-preserved c =
    let before = c.loop-binary.invariant in
    let step : pairs c.loop-binary.binary-iterator
    ≡ (c.as_str.result.now, c.as_slice.result.now) ∷ pairs c.next.new.self =
    search rules in
    let here = map (test_of c.as_str.result.now) c.as_slice.result.now in (
      before.0 ++ here,
      c.in_ok-place_all.ensures.ok before.0 before.1,
      append_assoc before.0 here (tests_in (pairs c.next.new.self))
          ∙ ap (λ ps. before.0 ++ tests_in ps) (sym step) ∙ before.2,
    )

pub returns : goal.returns
returns c =
    let none : pairs c.loop-binary.binary-iterator ≡ [] = search rules in
    let before = c.loop-binary.invariant in
    let all =
    sym (append-nil before.0) ∙ ap (λ ps. before.0 ++ tests_in ps) (sym none) ∙ before.2 in
    subst (λ tests. HasPlanned c.args.info.now tests c.loop-binary.planned) all before.1
