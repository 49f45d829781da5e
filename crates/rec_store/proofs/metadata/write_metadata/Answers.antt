use Rattle.std.proofs.Common.{◌∷◌, [], ◌++◌}
use Rattle.std.proofs.lemmas.Result.{err_from_is_err_and, IfErr-weaker, on_ok_weaker}
use Rattle.rec_store.proofs.metadata.write_metadata.Goals as goal
use Rattle.rec_store.proofs.Storing.{sound_stores, Stores-append, Unstored-after, Unstored-prefix}
use Rattle.rec_store.specs.Recording.{Unstored}
use Rattle.rec_store.specs.Store.{build_scope_entry, meta_entries, rerun_entries}

pub write_rerun-requires : goal.write_rerun-requires
write_rerun-requires g c = record {
  sound =
      sound_stores g.S.Sink.taken g.S.Sink.faults c.args.recorder.now c.write_build_scope.new.self
      (build_scope_entry c.args.build_scope.now ∷ [])
      c.in_ok-write_build_scope.ensures.ok c.requires.sound;
}

pub returns-clause-ok : goal.returns-clause-ok
returns-clause-ok g c =
    let rest = meta_entries c.args.cargo_metadata.now c.args.test_list.now c.args.record_opts.now in
    on_ok_weaker c.write_meta.result (λ stored.
    Stores-append g.S.Sink.taken g.S.Sink.faults c.args.recorder.now c.write_build_scope.new.self
    c.write_meta.new.self (build_scope_entry c.args.build_scope.now ∷ [])
    (rerun_entries c.args.rerun_info.now ++ rest)
    c.in_ok-write_build_scope.ensures.ok
    (Stores-append g.S.Sink.taken g.S.Sink.faults c.write_build_scope.new.self
    c.write_rerun.new.recorder c.write_meta.new.self (rerun_entries c.args.rerun_info.now)
    rest c.in_ok-write_rerun.ensures.ok
    stored))
    c.write_meta.ensures.ok

pub returns-in_err-write_build_scope-clause-err : goal.returns-in_err-write_build_scope-clause-err
returns-in_err-write_build_scope-clause-err g c =
    let taken = g.S.Sink.taken in
    let faults = g.S.Sink.faults in
    let scope = build_scope_entry c.args.build_scope.now ∷ [] in
    let rest = rerun_entries c.args.rerun_info.now
    ++ meta_entries c.args.cargo_metadata.now c.args.test_list.now c.args.record_opts.now in
    let start = c.args.recorder.now in
    let end = c.write_build_scope.new.self in
    let e = c.in_err-write_build_scope.field-0.0 in
    let p = err_from_is_err_and c.from_residual.result c.from_residual.ensures.1 in
    rw (p.1, p.2)
    (Unstored-prefix taken faults start end scope rest e c.in_err-write_build_scope.ensures.err)

pub returns-in_err-write_rerun-clause-err : goal.returns-in_err-write_rerun-clause-err
returns-in_err-write_rerun-clause-err g c =
    let taken = g.S.Sink.taken in
    let faults = g.S.Sink.faults in
    let scope = build_scope_entry c.args.build_scope.now ∷ [] in
    let rerun = rerun_entries c.args.rerun_info.now in
    let meta = meta_entries c.args.cargo_metadata.now c.args.test_list.now c.args.record_opts.now in
    let start = c.args.recorder.now in
    let scoped = c.write_build_scope.new.self in
    let end = c.write_rerun.new.recorder in
    let e = c.in_err-write_rerun.field-0.0 in
    let p = err_from_is_err_and c.from_residual-in_err-write_rerun.result
    c.from_residual-in_err-write_rerun.ensures.1 in
    rw (p.1, p.2) (
    Unstored-after taken faults start scoped end scope (rerun ++ meta)
    e c.requires.sound c.in_ok-write_build_scope.ensures.ok
    (Unstored-prefix taken faults scoped end rerun meta e c.in_err-write_rerun.ensures.err)
    )

pub returns-clause-err : goal.returns-clause-err
returns-clause-err g c =
    let taken = g.S.Sink.taken in
    let faults = g.S.Sink.faults in
    let scope = build_scope_entry c.args.build_scope.now ∷ [] in
    let rerun = rerun_entries c.args.rerun_info.now in
    let meta = meta_entries c.args.cargo_metadata.now c.args.test_list.now c.args.record_opts.now in
    let start = c.args.recorder.now in
    let scoped = c.write_build_scope.new.self in
    let rerunning = c.write_rerun.new.recorder in
    let end = c.write_meta.new.self in
    let first = c.in_ok-write_build_scope.ensures.ok in
    let second = c.in_ok-write_rerun.ensures.ok in
    let kept = sound_stores taken faults start scoped scope first c.requires.sound in
    IfErr-weaker c.write_meta.result (Unstored taken faults rerunning end meta)
    (Unstored taken faults start end (scope ++ (rerun ++ meta)))
    (λ e u. Unstored-after taken faults start scoped end scope (rerun ++ meta) e c.requires.sound
    first (Unstored-after taken faults scoped rerunning end rerun meta e kept second u))
    c.write_meta.ensures.err
