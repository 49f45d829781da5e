use Rattle.std.proofs.Common.{[], ◌∷◌, ap, is_some}
use Rattle.std.proofs.lemmas.Result.{on_ok_weaker}
use Rattle.rec_store.proofs.Accepted.{entry_accepted}
use Rattle.rec_store.proofs.Counts.{counts_stored}
use Rattle.rec_store.proofs.EntrySpellings.{build_scope_is}
use Rattle.rec_store.proofs.Growing.{keeps_stored, stored_stand}
use Rattle.rec_store.proofs.recorder.RunRecorder.write_build_scope.Goals as goal
use Rattle.rec_store.specs.Store.{build_scope_entry}

pub returns-clause-accepted : goal.returns-clause-accepted
returns-clause-accepted g c =
    entry_accepted g.S.Sink.taken g.S.Sink.faults g.L.Sink.taken g.N.OutputNamer.number
    c.args.self.now c.store_item.new.self (build_scope_entry c.args.build_scope.now)
    c.store_item.result build_scope_is
    (on_ok_weaker c.store_item.result (λ read. ap is_some read) c.store_item.ensures.read)
    c.store_item.ensures.ok c.store_item.ensures.err

pub returns-clause-stands : goal.returns-clause-stands
returns-clause-stands g c =
    stored_stand g.S.Sink.taken g.S.Sink.faults c.args.self.now c.store_item.new.self
    (build_scope_entry c.args.build_scope.now ∷ []) c.store_item.result c.store_item.ensures.ok

pub returns-clause-entries : goal.returns-clause-entries
returns-clause-entries g c =
    keeps_stored g.S.Sink.taken g.S.Sink.faults c.args.self.now c.store_item.new.self
    (build_scope_entry c.args.build_scope.now ∷ [])
    c.store_item.result c.store_item.ensures.ok c.store_item.ensures.err

pub returns-clause-later : goal.returns-clause-later
returns-clause-later g c =
    counts_stored g.S.Sink.taken g.S.Sink.faults g.L.Sink.faults c.args.self.now
    c.store_item.new.self (build_scope_entry c.args.build_scope.now ∷ [])
    c.store_item.result c.store_item.ensures.ok c.store_item.ensures.err
