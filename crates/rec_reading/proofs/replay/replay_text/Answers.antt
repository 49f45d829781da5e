use Rattle.std.proofs.lemmas.Result.{err_from_is_err_and}
use Rattle.rec_reading.proofs.Listed.{events-refused, head-wanting, replayed-all, run-refused}
use Rattle.rec_reading.proofs.replay.replay_text.Goals as goal

pub returns-in_err-text : goal.returns-in_err-text
returns-in_err-text c = λ es is.
    let bundle = c.args.bundle.now in
    let p = err_from_is_err_and c.from_residual.result c.from_residual.ensures.1 in
    rw (p.1, p.2) (head-wanting c.args.load_output bundle.limit bundle.bytes c.manifest.result.now
    c.manifest.ensures.judged es is c.in_err-text.field-0.0 c.in_err-text.ensures)

pub returns-in_err-run : goal.returns-in_err-run
returns-in_err-run c = λ es is.
    let bundle = c.args.bundle.now in
    let p =
    err_from_is_err_and c.from_residual-in_err-run.result c.from_residual-in_err-run.ensures.1 in
    rw (p.1, p.2) (run-refused c.args.load_output bundle.limit bundle.bytes c.manifest.result.now
    c.manifest.ensures.judged es is c.in_err-run.field-0.0 (c.in_err-run.ensures es is))

pub returns-in_err-print_run : goal.returns-in_err-print_run
returns-in_err-print_run c = λ es is.
    let bundle = c.args.bundle.now in
    let p = err_from_is_err_and c.from_residual-in_err-print_run.result
    c.from_residual-in_err-print_run.ensures.1 in
    rw (p.1, p.2) (events-refused c.args.load_output bundle.limit bundle.bytes c.manifest.result.now
    c.manifest.ensures.judged es is c.in_ok-run.run' (c.in_ok-run.ensures es is)
    c.in_ok-text.text.items c.print_run.new.text.items c.in_err-print_run.field-0.0
    c.in_err-print_run.ensures)

pub returns : goal.returns
returns c = λ es is.
    let bundle = c.args.bundle.now in
    replayed-all c.args.load_output bundle.limit bundle.bytes c.manifest.result.now
    c.manifest.ensures.judged es is c.in_ok-run.run' (c.in_ok-run.ensures es is)
    c.in_ok-text.text c.print_run.new.text.items c.in_ok-text.ensures c.in_ok-print_run.ensures
