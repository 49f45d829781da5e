use Rattle.std.proofs.Common.{sym, ◌∙◌}
use Rattle.rec_junit.proofs.Keys.{ok_then, with_addition-there}
use Rattle.rec_junit.proofs.suites.OpenSuites.add.Goals as goal
use Rattle.rec_junit.specs.Suites.{new_suite}

pub returns-in-Some-clause-added : goal.returns-in-Some-clause-added
returns-in-Some-clause-added c =
    let there = sym c.place_of.ensures.place ∙ c.in-Some.is in
    ok_then c.add_more.result
    (with_addition-there c.args.addition c.args.self.now c.self.inside.keys.keys
    c.self.inside.suites.items c.add_more.new.suites.items c.in-Some.place c.self.view_is there)
    (c.add_more.ensures.added
    (new_suite c.args.addition.key c.args.addition.case c.args.addition.properties))
