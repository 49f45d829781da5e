use Rattle.std.proofs.Common.{◌∙◌}
use Rattle.rec_format.proofs.SuiteMaps.{lookup-suites}
use Rattle.rec_format.proofs.suites.RerunSuites.get.Goals as goal

pub returns : goal.returns
returns c = c.get.ensures.value ∙ rw (c.as_str.ensures.value, ← c.self.view_is)
    (lookup-suites c.args.binary_id.now c.self.inside.inner.entries c.self.invariant)
