use Rattle.std.proofs.Common.{ap, refl, ◌∙◌, arith, length, map}
use Rattle.std.proofs.lemmas.Result.{err_from_is_err_and}
use Rattle.rec_container.specs.NamedContents.{entry_of}
use Rattle.rec_portable.proofs.RewrittenRuns.{run_foreign, run_made, run_refused, run_unread}
use Rattle.rec_portable.proofs.RewrittenStores.{count_fits, made_of, short_names}
use Rattle.rec_portable.proofs.upgrading.rewrite_run.Goals as goal

pub returns-in_err-run-clause-err : goal.returns-in_err-run-clause-err
returns-in_err-run-clause-err c =
    let p = err_from_is_err_and c.from_residual.result c.from_residual.ensures.1 in
    rw (p.1, p.2) (run_unread c.args.limit c.args.manifest.now c.args.log.now
    c.args.entries.now.entries _ (c.in_err-run.ensures c.args.manifest.now))

pub returns-in-Err-clause-err : goal.returns-in-Err-clause-err
returns-in-Err-clause-err c =
    let run = c.in_ok-run.ensures c.args.manifest.now in
    run_foreign c.args.limit c.args.manifest.now c.args.log.now c.args.entries.now.entries run.0
    run.1 _ (c.in-Err.ensures _ run.2.paths)

pub write_anew-written-requires : goal.write_anew-written-requires
write_anew-written-requires c =
    record {
      names =
          short_names c.in_ok-run.run'.metadata c.args.entries.now.entries c.deref.result.now
          c.requires (ap (map entry_of) c.deref.ensures.value ∙ c.in-Ok.ensures);
    }

pub returns-clause-ok : goal.returns-clause-ok
returns-clause-ok c =
    let m = c.args.manifest.now in
    let run = c.in_ok-run.ensures m in
    let es = c.args.entries.now.entries in
    let stored = ap (map entry_of) c.deref.ensures.value ∙ c.in-Ok.ensures in
    let fits = count_fits c.in_ok-run.run'.metadata es c.deref.result.now c.count.result stored
    c.count.ensures in
    let same = ap length c.deref.ensures.value in
    run_made c.args.limit m c.args.log.now es run.0 run.1 tt (c.in_default.ensures _ run.2.paths)
    c.write_anew-written.result
    (c.write_anew-written.ensures.ok run.0
    (made_of run.0 m c.in_ok-run.run' _ es c.deref.result.now c.count.result run.2 refl refl stored
    c.count.ensures (omega (arith, fits, same, c.len.ensures))))

pub returns-clause-err : goal.returns-clause-err
returns-clause-err c =
    let m = c.args.manifest.now in
    let run = c.in_ok-run.ensures m in
    let es = c.args.entries.now.entries in
    let stored = ap (map entry_of) c.deref.ensures.value ∙ c.in-Ok.ensures in
    let fits = count_fits c.in_ok-run.run'.metadata es c.deref.result.now c.count.result stored
    c.count.ensures in
    let same = ap length c.deref.ensures.value in
    run_refused c.args.limit m c.args.log.now es run.0 run.1 tt (c.in_default.ensures _ run.2.paths)
    c.write_anew-written.result
    (c.write_anew-written.ensures.err run.0
    (made_of run.0 m c.in_ok-run.run' _ es c.deref.result.now c.count.result run.2 refl refl stored
    c.count.ensures (omega (arith, fits, same, c.len.ensures))))
