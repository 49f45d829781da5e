use Rattle.std.proofs.Common.{List, ℕ, OnOk, IfErr, subst}
use Rattle.std.proofs.lemmas.Result.{IfErr-weaker}
use Rattle.rec_store.specs.Recording.{Stores, Unstored}
use Rattle.rec_store.specs.Store.{metadata_of, store_entries}
use Rattle.rec_export.proofs.record.write_head.Goals as goal
use Rattle.rec_export.proofs.RecorderFaults.{head_comes}
use Rattle.rec_export.specs.RecorderFaults.{ComesOfHead}

pub returns-clause-ok : goal.returns-clause-ok
returns-clause-ok g c =
    let head = c.args.head.now in
    subst (λ (metadata : List ℕ). OnOk c.write_metadata.result
    (Stores g.S.Sink.taken g.S.Sink.faults c.args.recorder.now c.write_metadata.new.recorder
    (metadata_of head.build_scope head.rerun_info metadata head.test_list head.record_opts)))
    c.as_str.ensures.value c.write_metadata.ensures.ok

pub returns-clause-err : goal.returns-clause-err
returns-clause-err g c =
    let head = c.args.head.now in
    let taken = g.S.Sink.taken in
    let faults = g.S.Sink.faults in
    let start = c.args.recorder.now in
    let end = c.write_metadata.new.recorder in
    IfErr-weaker c.write_metadata.result (Unstored taken faults start end (store_entries head))
    ComesOfHead
    (λ e u. head_comes taken faults start end c.requires.sound head e c.requires.empty u)
    (subst (λ (metadata : List ℕ). IfErr c.write_metadata.result (Unstored taken faults start end
    (metadata_of head.build_scope head.rerun_info metadata head.test_list head.record_opts)))
    c.as_str.ensures.value c.write_metadata.ensures.err)
