use Rattle.std.proofs.Common.{[]}
use Rattle.rec_spans.proofs.Acceptance.{accepted-prefix}
use Rattle.rec_spans.proofs.laws.prefixes.Goals as goal
use Rattle.rec_spans.proofs.Prefixes.{marks_after-append}
use Rattle.rec_spans.proofs.Pushes.{keeps-prefixes}

pub returns-clause-events : goal.returns-clause-events
returns-clause-events c = keeps-prefixes

pub returns-clause-accepted : goal.returns-clause-accepted
returns-clause-accepted c = accepted-prefix

pub returns-clause-marks : goal.returns-clause-marks
returns-clause-marks c = marks_after-append []
