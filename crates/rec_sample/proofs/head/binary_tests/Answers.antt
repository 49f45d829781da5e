use Rattle.rec_sample.proofs.head.binary_tests.Goals as goal
use Rattle.rec_sample.proofs.head.binary_tests.Goals.{
  then-i-binary+in_ok-test_name+in_ok-push,
  else-i-binary,
}
use Rattle.rec_sample.proofs.Suites.{names_with, names_without}

pub loop-i-preserved : goal.loop-i-preserved
loop-i-preserved c =
    let i = c.loop-i.i in
    let binary = c.args.binary in
    let names = c.loop-i.names.items in
    elim c.if-i-binary.branch [
      | then-i-binary+in_ok-test_name+in_ok-push w ↦
          rw w.names-is (names_with i binary names w.push.new.self.items w.in_ok-test_name.field-0
          w.if-i-binary.true c.loop-i.invariant w.in_ok-test_name.ensures
          w.in_ok-push.ensures.items)
      | else-i-binary w ↦
          rw w.names-is (names_without i binary names w.if-i-binary.false c.loop-i.invariant)
    ]
