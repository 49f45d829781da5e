use Rattle.std.proofs.Common.{◌≡◌, ◌∙◌, ◌<◌, min, refl, arith}
use Rattle.rec_sample.proofs.head.test_list.Goals as goal
use Rattle.rec_sample.proofs.Suites.{suites_with}
use Rattle.rec_sample.specs.Head.{test_list}

pub loop-binary-preserved : goal.loop-binary-preserved
loop-binary-preserved c =
    let small : c.loop-binary.binary < 4 = omega arith in
    let id = c.new-id.ensures ∙ c.in_ok-binary_id.ensures in
    suites_with c.args.tests c.loop-binary.binary c.loop-binary.suites c.insert.new.self
    c.new-id.result c.in_ok-names.names small c.loop-binary.invariant id c.in_ok-names.ensures
    c.in_ok-insert.ensures.put

pub returns : goal.returns
unfolding test_list
returns c =
    let all : c.loop-binary.binary ≡ min c.args.tests 4 = omega arith in
    rw (c.loop-binary.invariant, all) refl
