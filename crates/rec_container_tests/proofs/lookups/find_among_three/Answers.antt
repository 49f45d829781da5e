use Rattle.std.proofs.Common.{◌+◌, ◌-◌, ◌*◌, length, arith}
use Rattle.rec_container.proofs.Halving.{exponent}
use Rattle.rec_container_tests.proofs.lookups.find_among_three.Goals as goal

pub returns : goal.returns
returns g c =
    let few = exponent (c.get_counted.new.steps - c.args.steps.now) 2
    (2 * length c.args.container.now.entries + 1) c.get_counted.ensures.cost
    (omega (arith, c.requires)) in
    omega (arith, few, c.get_counted.ensures.later)
