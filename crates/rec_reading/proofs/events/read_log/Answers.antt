use Rattle.std.proofs.lemmas.Result.{err_from_is_err_and}
use Rattle.rec_reading.proofs.events.read_log.Goals as goal
use Rattle.rec_reading.proofs.LogRead.{log-read, log-refused}

pub returns-in_err-log : goal.returns-in_err-log
returns-in_err-log c = λ es is.
    let p = err_from_is_err_and c.from_residual.result c.from_residual.ensures.1 in
    rw (p.1, p.2) (log-refused c.args.bundle.now.limit es _ (c.in_err-log.ensures es is))

pub returns : goal.returns
returns c = λ es is.
    log-read c.args.bundle.now.limit es c.in_ok-log.log (c.in_ok-log.ensures es is)
    c.events.result c.events.ensures c.read_events.result c.read_events.ensures
