use Rattle.std.proofs.lemmas.Result.{err_from_is_err_and}
use Rattle.rec_reading.proofs.report.reports_of.Goals as goal
use Rattle.rec_reading.proofs.Reported.{events-refused}
use Rattle.rec_reading.specs.RunParts.{parts_in}

pub returns-in_err-print_run : goal.returns-in_err-print_run
returns-in_err-print_run c =
    let run = c.args.run.now in
    let p = err_from_is_err_and c.from_residual-in_err-print_run.result
    c.from_residual-in_err-print_run.ensures.1 in
    rw (p.1, p.2) (events-refused run.store.limit (parts_in run)
    run.mode c.in_ok-printer.printer.builder.mode c.in_ok-printer.ensures.mode
    c.print_run.new.text.items c.in_err-print_run.field-0.0 c.in_err-print_run.ensures)
