use Rattle.std.proofs.Common.{◌≡◌, drop}
use Rattle.rec_junit.proofs.reruns.CaseMaker.reruns_of.Given as goal
use Rattle.rec_junit.specs.Judging.{after}
use Rattle.rec_junit.specs.Reruns.{reruns_of}

-- what is left completes the reruns, or is refused
abbrev pub invariant-loop-status : goal.invariant-loop-status
invariant-loop-status g l =
    reruns_of l.fn.self.unit.now (g.D.ErrorDescriber.text_of l.fn.self.describer.now)
    l.fn.self.storing.failure l.statuses
    ≡ after l.reruns.items
    (reruns_of l.fn.self.unit.now (g.D.ErrorDescriber.text_of l.fn.self.describer.now)
    l.fn.self.storing.failure (drop l.status-index l.statuses))
