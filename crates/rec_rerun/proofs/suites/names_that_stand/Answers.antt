use Rattle.std.proofs.Common.{◌≡◌, ◌∷◌, ◌∙◌, [], Some, refl, ap, rules, string_bytes, string_cmp}
use Rattle.std.proofs.lemmas.Map.Views.{All-turn}
use Rattle.std.specs.BTreeMap.{get}
use Rattle.std.specs.Map.Iter.{deref_pair}
use Rattle.std.specs.Prelude.{if◌then◌else◌}
use Rattle.rec_events.specs.Names.{with_name}
use Rattle.rec_rerun.proofs.Gathered.{gathered-all, gathered-start}
use Rattle.rec_rerun.proofs.suites.names_that_stand.Goals as goal
use Rattle.rec_rerun.proofs.SuiteSteps.{names-more}
use Rattle.rec_rerun.specs.Suites.{has, stands}

pub loop-name-init : goal.loop-name-init
loop-name-init c =
    gathered-start c.args.tests.now (stands c.args.passed) _ _
    (λ id. ap (λ names. has names id) c.empty-names.ensures)
    refl c.into_iter-name-iterator.ensures.into_iter_gives.0

pub loop-name-preserved : goal.loop-name-preserved
loop-name-preserved c =
    let gives = c.into_iter-name-iterator.ensures.into_iter_gives in
    let is = All-turn deref_pair (λ e. get string_cmp c.args.tests.now e.0 ≡ Some e.1)
    _ _ _ _ _ _ _ gives.6 gives.0 c.loop-name.yielded_by c.in-Some.is c.next.ensures.steps in
    let step : c.loop-name.name-iterator
    ≡ (c.in-Some.name.now, c.in-Some.standing.now) ∷ c.next.new.self =
    search rules in
    let text : c.as_str.result.now ≡ string_bytes c.in-Some.name.now = search rules in
    let names = c.loop-name.names in
    let added = c.in-Ok.ensures.ok ∙ ap
    (λ n. if stands c.args.passed (Some c.in-Some.standing.now) then with_name names n else names)
    text in
    names-more c.args.tests.now c.args.passed c.loop-name.names _ c.in-Some.name.now
    c.in-Some.standing.now c.next.new.self c.loop-name.name-iterator is
    added step c.loop-name.invariant

pub returns-clause-names : goal.returns-clause-names
returns-clause-names c =
    let none : c.loop-name.name-iterator ≡ [] = search rules in
    gathered-all c.args.tests.now (stands c.args.passed) (has c.loop-name.names)
    c.loop-name.name-iterator none c.loop-name.invariant
