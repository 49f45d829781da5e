use Rattle.std.proofs.Common.{arith, length-drop, length-take, drop, ◌-◌, length}
use Rattle.rec_container.proofs.steps.read_step.Goals as goal

pub returns-in_ok-held-in-1-clause-place : goal.returns-in_ok-held-in-1-clause-place
returns-in_ok-held-in-1-clause-place c =
    let place = c.in_ok-held-in-1.ensures.place in
    let bytes = c.args.bytes.now in (
      omega (arith, place.0),
      omega (arith, place.1, length-take (length bytes - 1) (drop 1 bytes), length-drop 1 bytes),
    )
