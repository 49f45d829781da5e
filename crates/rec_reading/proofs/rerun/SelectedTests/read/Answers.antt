use Rattle.std.proofs.Common.{Ok, ap}
use Rattle.std.proofs.lemmas.Result.{err_from_is_err_and}
use Rattle.rec_reading.proofs.Listed.{judged_of}
use Rattle.rec_reading.proofs.rerun.SelectedTests.read.Goals as goal
use Rattle.rec_reading.proofs.RerunRead.{events-refused, log-refused, rerun-read}
use Rattle.rec_reading.proofs.RerunRead.{store-refused, tested-refused}
use Rattle.rec_reading.specs.RunParts.{of_bundle}

pub returns-in_err-log : goal.returns-in_err-log
returns-in_err-log c = λ es is.
    let limit = c.args.bundle.now.limit in
    let manifest = ap of_bundle (judged_of c.args.bundle.now.bytes limit (Ok c.manifest.result.now)
    es c.manifest.ensures.judged is) in
    let p = err_from_is_err_and c.from_residual.result c.from_residual.ensures.1 in
    rw (p.1, p.2)
    (log-refused limit es c.manifest.result.now manifest _ (c.in_err-log.ensures es is))

pub returns-in_err-store : goal.returns-in_err-store
returns-in_err-store c = λ es is.
    let limit = c.args.bundle.now.limit in
    let manifest = ap of_bundle (judged_of c.args.bundle.now.bytes limit (Ok c.manifest.result.now)
    es c.manifest.ensures.judged is) in
    let p = err_from_is_err_and c.from_residual-in_err-store.result
    c.from_residual-in_err-store.ensures.1 in
    rw (p.1, p.2) (store-refused limit es c.manifest.result.now manifest c.in_ok-log.log
    (c.in_ok-log.ensures es is) _ (c.in_err-store.ensures es is))

pub returns-in_err-tested : goal.returns-in_err-tested
returns-in_err-tested c = λ es is.
    let limit = c.args.bundle.now.limit in
    let manifest = ap of_bundle (judged_of c.args.bundle.now.bytes limit (Ok c.manifest.result.now)
    es c.manifest.ensures.judged is) in
    let p = err_from_is_err_and c.from_residual-in_err-tested.result
    c.from_residual-in_err-tested.ensures.1 in
    rw (p.1, p.2) (tested-refused limit es c.manifest.result.now manifest c.in_ok-log.log
    (c.in_ok-log.ensures es is) c.in_ok-store.store (c.in_ok-store.ensures es is) _
    c.in_err-tested.ensures)

pub returns : goal.returns
returns c = λ es is.
    let limit = c.args.bundle.now.limit in
    let manifest = ap of_bundle (judged_of c.args.bundle.now.bytes limit (Ok c.manifest.result.now)
    es c.manifest.ensures.judged is) in
    events-refused limit es c.manifest.result.now manifest c.in_ok-log.log
    (c.in_ok-log.ensures es is) c.in_ok-store.store (c.in_ok-store.ensures es is)
    c.in_ok-tested.tested c.in_ok-tested.ensures c.in-Err.error c.in-Err.ensures

pub returns-in-Ok : goal.returns-in-Ok
returns-in-Ok c = λ es is.
    let limit = c.args.bundle.now.limit in
    let manifest = ap of_bundle (judged_of c.args.bundle.now.bytes limit (Ok c.manifest.result.now)
    es c.manifest.ensures.judged is) in
    let selected = c.in-Ok.ensures in (
      _,
      rerun-read limit es c.manifest.result.now manifest c.in_ok-log.log (c.in_ok-log.ensures es is)
          c.in_ok-store.store (c.in_ok-store.ensures es is)
          c.in_ok-tested.tested c.in_ok-tested.ensures selected.0 selected.1,
      selected.2,
      c.into_tests.ensures,
    )
