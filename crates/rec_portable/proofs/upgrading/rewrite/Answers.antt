use Rattle.std.proofs.Common.{◌≡◌, ◌⊎◌, ℕ, List, [], Ok, Err, IfOk, IfErr, refl, sym, subst}
use Rattle.std.proofs.lemmas.Result.{err_from_is_err_and}
use Rattle.rec_container.specs.Container.{AreFrom, Entry}
use Rattle.rec_store.specs.RunParts.{RunParts}
use Rattle.rec_portable.proofs.RewrittenRuns.{bundle_made, bundle_refused}
use Rattle.rec_portable.proofs.RewrittenRuns.{log_unread, names_refused, store_found}
use Rattle.rec_portable.proofs.RewrittenRuns.{store_refused, store_unopened}
use Rattle.rec_portable.proofs.upgrading.rewrite.Goals as goal
use Rattle.rec_portable.specs.declared.upgrade_error.UpgradeError.TheVariants.{OutOfMemory}
use Rattle.rec_portable.specs.Rewriting.{IsRewritten}
use Rattle.rec_portable.specs.Upgrading.{run_judged}

pub returns-in_err-log-clause-err : goal.returns-in_err-log-clause-err
returns-in_err-log-clause-err c =
    let o = c.args.recording.now in
    let m = c.manifest-manifest.result.now in
    let j = c.manifest-manifest.ensures.judged in
    let p = err_from_is_err_and c.from_residual.result c.from_residual.ensures.1 in
    rw (p.1, p.2) (log_unread o.bytes o.limit j.0 m j.1 j.2 _ _ refl (c.in_err-log.ensures j.0 j.1))

pub returns-in_err-store-clause-err : goal.returns-in_err-store-clause-err
returns-in_err-store-clause-err c =
    let o = c.args.recording.now in
    let m = c.manifest-manifest.result.now in
    let j = c.manifest-manifest.ensures.judged in
    let p = err_from_is_err_and c.from_residual-in_err-store.result
    c.from_residual-in_err-store.ensures.1 in
    rw (p.1, p.2) (store_unopened o.bytes o.limit j.0 m j.1 j.2 _ (c.in_ok-log.ensures j.0 j.1)
    _ _ refl (store_refused o.limit _ _ (c.in_err-store.ensures j.0 j.1)))

pub returns-in-Err-clause-err : goal.returns-in-Err-clause-err
returns-in-Err-clause-err c =
    let o = c.args.recording.now in
    let m = c.manifest-manifest.result.now in
    let j = c.manifest-manifest.ensures.judged in
    let es = c.in_ok-store.store.entries in
    let s = store_found o.limit _ c.in_ok-store.store (c.in_ok-store.ensures j.0 j.1) in
    let log = c.in_ok-log.ensures j.0 j.1 in
    names_refused o.bytes o.limit j.0 m j.1 j.2 _ log s.0 es s.1 s.2 _ (c.in-Err.ensures j.0 j.1)

pub rewrite_run-written-requires : goal.rewrite_run-written-requires
rewrite_run-written-requires c =
    let o = c.args.recording.now in
    let m = c.manifest-manifest.result.now in
    let j = c.manifest-manifest.ensures.judged in
    let es = c.in_ok-store.store.entries in
    let s = store_found o.limit _ c.in_ok-store.store (c.in_ok-store.ensures j.0 j.1) in
    let log = c.in_ok-log.ensures j.0 j.1 in
    subst (AreFrom []) (sym c.entries.ensures) s.2.entries

pub returns-clause-ok : goal.returns-clause-ok
returns-clause-ok c =
    let o = c.args.recording.now in
    let m = c.manifest-manifest.result.now in
    let j = c.manifest-manifest.ensures.judged in
    let es = c.in_ok-store.store.entries in
    let s = store_found o.limit _ c.in_ok-store.store (c.in_ok-store.ensures j.0 j.1) in
    let log = c.in_ok-log.ensures j.0 j.1 in
    let names = c.in_default.ensures j.0 j.1 in
    bundle_made o.bytes o.limit j.0 m j.1 j.2 c.in_ok-log.log log s.0 es s.1 s.2 tt names
    c.rewrite_run-written.result
    (subst (λ (n : ℕ). IfOk c.rewrite_run-written.result (λ x. (p : RunParts)
    × (run_judged n m c.in_ok-log.log es ≡ Ok p) × IsRewritten p x)) c.limit.ensures
    (subst (λ (fs : List Entry). IfOk c.rewrite_run-written.result (λ x. (p : RunParts)
    × (run_judged c.limit.result m c.in_ok-log.log fs ≡ Ok p) × IsRewritten p x))
    c.entries.ensures c.rewrite_run-written.ensures.ok))

pub returns-clause-err : goal.returns-clause-err
returns-clause-err c =
    let o = c.args.recording.now in
    let m = c.manifest-manifest.result.now in
    let j = c.manifest-manifest.ensures.judged in
    let es = c.in_ok-store.store.entries in
    let s = store_found o.limit _ c.in_ok-store.store (c.in_ok-store.ensures j.0 j.1) in
    let log = c.in_ok-log.ensures j.0 j.1 in
    let names = c.in_default.ensures j.0 j.1 in
    bundle_refused o.bytes o.limit j.0 m j.1 j.2 c.in_ok-log.log log s.0 es s.1 s.2 tt names
    c.rewrite_run-written.result
    (subst (λ (n : ℕ). IfErr c.rewrite_run-written.result
    (λ e. (e ≡ OutOfMemory) ⊎ (run_judged n m c.in_ok-log.log es ≡ Err e))) c.limit.ensures
    (subst (λ (fs : List Entry). IfErr c.rewrite_run-written.result
    (λ e. (e ≡ OutOfMemory) ⊎ (run_judged c.limit.result m c.in_ok-log.log fs ≡ Err e)))
    c.entries.ensures c.rewrite_run-written.ensures.err))
