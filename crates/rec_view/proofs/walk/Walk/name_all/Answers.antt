use Rattle.std.proofs.Common.{List, subst, sym, take}
use Rattle.std.proofs.lemmas.List.{take_all}
use Rattle.rec_events.specs.declared.instances.OwnedTestInstanceId.{OwnedTestInstanceId}
use Rattle.rec_view.proofs.walk.Walk.name_all.Goals as goal
use Rattle.rec_view.proofs.Walks.{names_none, take_more}
use Rattle.rec_view.specs.Walked.{Names}

pub loop-name-init : goal.loop-name-init
loop-name-init c = names_none c.args.self.now

pub loop-name-preserved : goal.loop-name-preserved
loop-name-preserved c =
    subst (λ (ns : List OwnedTestInstanceId). Names c.args.self.now c.name.new.self ns)
    (sym (take_more c.args.names.now c.loop-name.name-index c.name-item.result
    c.loop-name-test.true c.name-item.is))
    (c.in_ok-name.ensures.ok c.args.self.now
    (take c.loop-name.name-index c.args.names.now) c.loop-name.invariant)

pub returns : goal.returns
returns c =
    record {
      ok =
          subst (λ (ns : List OwnedTestInstanceId). Names c.args.self.now c.loop-name.self ns)
          (take_all c.loop-name.name-index c.args.names.now c.loop-name-test.false)
          c.loop-name.invariant;
    }
