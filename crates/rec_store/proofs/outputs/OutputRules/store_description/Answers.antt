use Rattle.std.proofs.Common.{◌≡◌, Option, sym, ap}
use Rattle.std.proofs.lemmas.Result.{err_from_is_err_and}
use Rattle.rec_events.specs.declared.outputs.ZipStoreOutput.{ZipStoreOutput}
use Rattle.rec_events.specs.declared.outputs.ZipStoreOutputDescription.TheVariants.{Split, Combined}
use Rattle.rec_store.proofs.Adding.{AddsEach-append}
use Rattle.rec_store.proofs.outputs.OutputRules.store_description.Goals as goal
use Rattle.rec_store.proofs.Stopped.{Stops-prefix, Stops-after}

split : {a b c d : Option ZipStoreOutput} → a ≡ c → b ≡ d → Split a b ≡ Split c d
split p q = rw (p, q)

pub returns-in_err-stdout-in-Split : goal.returns-in_err-stdout-in-Split
returns-in_err-stdout-in-Split g c =
    let p = err_from_is_err_and c.from_residual.result c.from_residual.ensures.1 in
    rw (p.1, p.2, c.in-Split.is) (Stops-prefix g.S.Sink.taken g.S.Sink.faults c.args.store.now
    c.store_captured.new.store _ _ _ c.in_err-stdout-in-Split.ensures)

pub returns-in_err-stderr-in-Split : goal.returns-in_err-stderr-in-Split
returns-in_err-stderr-in-Split g c =
    let p = err_from_is_err_and c.from_residual-in_err-stderr-in-Split.result
    c.from_residual-in_err-stderr-in-Split.ensures.1 in
    rw (p.1, p.2, c.in-Split.is) (Stops-after
    g.S.Sink.taken
    g.S.Sink.faults
    c.args.store.now
    c.store_captured.new.store
    c.store_captured-in-Split.new.store
    _
    _
    _
    c.in_ok-stdout-in-Split.ensures.1
    c.in_err-stderr-in-Split.ensures)

pub returns-in_ok-stderr-in-Split : goal.returns-in_ok-stderr-in-Split
returns-in_ok-stderr-in-Split g c =
    let out = c.in_ok-stdout-in-Split.ensures in
    let err = c.in_ok-stderr-in-Split.ensures in
    rw (c.in-Split.is) (
      split out.0 err.0,
      AddsEach-append g.S.Sink.taken g.S.Sink.faults c.args.store.now c.store_captured.new.store
          c.store_captured-in-Split.new.store _ _ out.1 err.1,
      err.2,
    )

pub returns-in_err-output-in-Combined : goal.returns-in_err-output-in-Combined
returns-in_err-output-in-Combined g c =
    let p = err_from_is_err_and c.from_residual-in_err-output-in-Combined.result
    c.from_residual-in_err-output-in-Combined.ensures.1 in
    rw (p.1, p.2, c.in-Combined.is, sym c.as_bytes.ensures.value)
    c.in_err-output-in-Combined.ensures

pub returns-in_ok-output-in-Combined : goal.returns-in_ok-output-in-Combined
returns-in_ok-output-in-Combined g c =
    let h = c.in_ok-output-in-Combined.ensures in
    rw (c.in-Combined.is, sym c.as_bytes.ensures.value) (ap Combined h.0, h.1, h.2)
