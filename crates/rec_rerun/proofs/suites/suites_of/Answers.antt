use Rattle.std.proofs.Common.{◌≡◌, ◌∷◌, [], Some, refl, sym, ap}
use Rattle.std.proofs.Common.{subst, rules, string_bytes, string_cmp}
use Rattle.std.proofs.lemmas.Map.Views.{All-turn}
use Rattle.std.specs.BTreeMap.{get}
use Rattle.std.specs.List.{AllByRecursion}
use Rattle.std.specs.Map.Iter.{deref_pair}
use Rattle.rec_format.specs.Suites.{suite_of}
use Rattle.rec_rerun.proofs.Gathered.{gathered-start}
use Rattle.rec_rerun.proofs.suites.suites_of.Goals as goal
use Rattle.rec_rerun.proofs.SuiteSets.{names_at}
use Rattle.rec_rerun.proofs.SuiteSteps.{full-more, suites-all, suites-more}
use Rattle.rec_rerun.specs.Standings.{in_binary}
use Rattle.rec_rerun.specs.Suites.{AddsSuite, IsFull, stands}

pub loop-binary-init : goal.loop-binary-init
loop-binary-init c = record {
  full = subst (λ ss. AllByRecursion IsFull ss) (sym c.new-suites.ensures) tt;
  found =
      λ passed name.
      gathered-start c.args.standings.now.tests (λ o. stands passed (in_binary o name)) _ _
      (λ id. ap (λ ss. names_at passed (suite_of id ss) name) c.new-suites.ensures)
      refl c.into_iter-binary-iterator.ensures.into_iter_gives.0;
}

pub loop-binary-preserved : goal.loop-binary-preserved
loop-binary-preserved c =
    let tests = c.args.standings.now.tests in
    let gives = c.into_iter-binary-iterator.ensures.into_iter_gives in
    let is = All-turn deref_pair (λ e. get string_cmp tests e.0 ≡ Some e.1)
    _ _ _ _ _ _ _ gives.6 gives.0 c.loop-binary.yielded_by c.in-Some.is c.next.ensures.steps in
    let step : c.loop-binary.binary-iterator
    ≡ (c.in-Some.binary.now, c.in-Some.tests.now) ∷ c.next.new.self =
    search rules in
    let name : c.as_str.result.now ≡ string_bytes c.in-Some.binary.now = search rules in
    let adds : AddsSuite (string_bytes c.in-Some.binary.now)
    c.in-Some.tests.now c.loop-binary.suites c.add_suite.new.suites =
    subst (λ id. AddsSuite id c.in-Some.tests.now c.loop-binary.suites c.add_suite.new.suites)
    name c.in-Ok.ensures.ok in
    record {
      full =
          full-more tests c.loop-binary.suites c.add_suite.new.suites c.in-Some.binary.now
          c.in-Some.tests.now adds c.loop-binary.invariant.full;
      found =
          λ passed name.
          suites-more tests c.loop-binary.suites c.add_suite.new.suites c.in-Some.binary.now
          c.in-Some.tests.now passed name c.next.new.self c.loop-binary.binary-iterator is adds step
          (c.loop-binary.invariant.found passed name);
    }

pub returns : goal.returns
returns c =
    let none : c.loop-binary.binary-iterator ≡ [] = search rules in
    suites-all c.args.standings.now.tests c.loop-binary.suites c.loop-binary.binary-iterator none
    c.as_map-ordered.ensures.rise c.loop-binary.invariant.full c.loop-binary.invariant.found
