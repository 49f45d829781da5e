use Rattle.rec_reading.proofs.report.report_text.Goals as goal
use Rattle.rec_reading.proofs.Reported.{reported}

pub returns : goal.returns
returns c =
    λ es is. reported c.args.bundle.now.limit es c.in_ok-run.run' (c.in_ok-run.ensures es is)
    c.reports_of-result.result c.reports_of-result.ensures
