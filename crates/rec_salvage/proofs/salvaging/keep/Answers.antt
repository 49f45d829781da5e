use Rattle.std.proofs.Common.{refl}
use Rattle.std.proofs.lemmas.Result.{IfOk-at_ok}
use Rattle.rec_salvage.proofs.KeptBundle.{made}
use Rattle.rec_salvage.proofs.salvaging.keep.Goals as goal
use Rattle.rec_salvage.specs.Salvaged.{salvaged_events}

pub returns : goal.returns
returns c =
    let es = c.args.prefix.now.entries in
    let log = c.args.log.now in
    let taken = c.in_ok-length.ensures in
    let gathered = c.in_ok-length.gathered in
    let kept = IfOk-at_ok _ c.in_ok-store.was c.keep_store-store.ensures in
    made c.args.run.now log es c.in_ok-length.length gathered c.in_ok-store.store _ _ _ taken.0
    taken.1 taken.2 (kept (salvaged_events es log) taken.2) c.log_sizes.ensures refl
    c.deref.ensures.value (IfOk-at_ok _ c.in_ok-bundle.was c.make_bundle-bundle.ensures)
