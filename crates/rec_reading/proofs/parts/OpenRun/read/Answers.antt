use Rattle.std.proofs.lemmas.Result.{err_from_is_err_and}
use Rattle.rec_reading.proofs.Opened.{opts-refused, run-opened, store-refused, tests-refused}
use Rattle.rec_reading.proofs.parts.OpenRun.read.Goals as goal

pub returns-in_err-store : goal.returns-in_err-store
returns-in_err-store c = λ es is.
    let limit = c.args.bundle.now.limit in
    let p = err_from_is_err_and c.from_residual-in_err-store.result
    c.from_residual-in_err-store.ensures.1 in
    rw (p.1, p.2) (store-refused limit es c.in_ok-log.log (c.in_ok-log.ensures es is) _
    (c.in_err-store.ensures es is))

pub returns-in_err-opts : goal.returns-in_err-opts
returns-in_err-opts c = λ es is.
    let p =
    err_from_is_err_and c.from_residual-in_err-opts.result c.from_residual-in_err-opts.ensures.1 in
    rw (p.1, p.2)
    (opts-refused c.args.bundle.now.limit es c.in_ok-log.log (c.in_ok-log.ensures es is)
    c.in_ok-store.store (c.in_ok-store.ensures es is) _ c.in_err-opts.ensures.opts)

pub returns-in_err-tests : goal.returns-in_err-tests
returns-in_err-tests c = λ es is.
    let p = err_from_is_err_and c.from_residual-in_err-tests.result
    c.from_residual-in_err-tests.ensures.1 in
    rw (p.1, p.2) (tests-refused c.args.bundle.now.limit es c.in_ok-log.log
    (c.in_ok-log.ensures es is) c.in_ok-store.store (c.in_ok-store.ensures es is)
    c.in_ok-opts.opts c.in_ok-opts.ensures.opts c.read_opts.new.store c.in_ok-opts.ensures.same _
    c.in_err-tests.ensures.tests)

pub returns : goal.returns
returns c = λ es is.
    run-opened c.args.bundle.now.limit es c.in_ok-log.log (c.in_ok-log.ensures es is)
    c.in_ok-store.store (c.in_ok-store.ensures es is)
    c.in_ok-opts.opts c.in_ok-opts.ensures.opts c.read_opts.new.store c.read_tests.new.store
    c.in_ok-opts.ensures.same c.in_ok-tests.ensures.same c.in_ok-tests.tests
    c.in_ok-tests.ensures.tests
