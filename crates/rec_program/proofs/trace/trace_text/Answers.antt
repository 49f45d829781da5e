use Rattle.std.proofs.lemmas.Result.{err_from_is_err_and}
use Rattle.rec_program.proofs.trace.trace_text.Goals as goal
use Rattle.rec_program.proofs.Traced.{no_log, no_trace, the_trace}

pub returns-in_err-log : goal.returns-in_err-log
returns-in_err-log c = λ es is.
    let bundle = c.args.bundle.now in
    let p = err_from_is_err_and c.from_residual.result c.from_residual.ensures.1 in
    rw (p.1, p.2) (no_log bundle.limit bundle.bytes c.manifest-manifest.result.now
    c.manifest-manifest.ensures.judged es is c.args.group_by c.args.message_format _
    (c.in_err-log.ensures es is))

pub returns-in_err-text : goal.returns-in_err-text
returns-in_err-text c = λ es is.
    let bundle = c.args.bundle.now in
    let p =
    err_from_is_err_and c.from_residual-in_err-text.result c.from_residual-in_err-text.ensures.1 in
    rw (p.1, p.2) (no_trace bundle.limit bundle.bytes c.manifest-manifest.result.now
    c.manifest-manifest.ensures.judged es is c.args.group_by c.args.message_format
    c.in_ok-log.log (c.in_ok-log.ensures es is) c.events.result c.events.ensures _
    c.in_err-text.ensures)

pub returns : goal.returns
returns c = λ es is.
    let bundle = c.args.bundle.now in
    let traced = c.in_ok-text.ensures in
    the_trace bundle.limit bundle.bytes c.manifest-manifest.result.now
    c.manifest-manifest.ensures.judged es is c.args.group_by c.args.message_format
    c.in_ok-log.log (c.in_ok-log.ensures es is)
    c.events.result c.events.ensures c.in_ok-text.text.items traced.0 traced.1 traced.2
