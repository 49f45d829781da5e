use Rattle.rec_format.proofs.SuiteMaps.{SuitesRise-entries}
use Rattle.rec_format.proofs.suites.RerunSuites.as_map.Goals as goal

pub returns-clause-rise : goal.returns-clause-rise
returns-clause-rise c =
    rw (← c.self.view_is)
    (SuitesRise-entries c.self.inside.inner.entries c.self.invariant c.len-ordered.ensures.ordered)
