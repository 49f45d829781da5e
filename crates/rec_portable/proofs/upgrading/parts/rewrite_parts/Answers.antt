use Rattle.std.proofs.Common.{refl, ap, ◌∙◌, subst, List, ℕ, map}
use Rattle.std.proofs.lemmas.Result.{err_from_is_err_and}
use Rattle.rec_store.specs.OutputPaths.{output_path}
use Rattle.rec_portable.proofs.RewrittenParts.{log_refused, metadata_refused}
use Rattle.rec_portable.proofs.RewrittenParts.{outputs_refused, parts_made, parts_of_both}
use Rattle.rec_portable.proofs.upgrading.parts.rewrite_parts.Goals as goal
use Rattle.rec_portable.specs.Rewriting.{ArePaths}

pub returns-in_err-metadata : goal.returns-in_err-metadata
returns-in_err-metadata c = λ m.
    let p = err_from_is_err_and c.from_residual.result c.from_residual.ensures.1 in
    rw (p.1, p.2) (metadata_refused c.args.limit m c.args.log.now c.args.entries.now.entries _
    c.in_err-metadata.ensures)

pub returns-in_err-log : goal.returns-in_err-log
returns-in_err-log c = λ m.
    let read = c.in_ok-metadata.ensures in
    let p =
    err_from_is_err_and c.from_residual-in_err-log.result c.from_residual-in_err-log.ensures.1 in
    rw (p.1, p.2) (log_refused c.args.limit m c.args.log.now c.args.entries.now.entries read.0
    read.1 _ c.in_err-log.ensures)

pub returns-in_err-paths : goal.returns-in_err-paths
returns-in_err-paths c = λ m.
    let read = c.in_ok-metadata.ensures in
    let log = c.in_ok-log.ensures in
    let p = err_from_is_err_and c.from_residual-in_err-paths.result
    c.from_residual-in_err-paths.ensures.1 in
    rw (p.1, p.2)
    (outputs_refused c.args.limit m c.args.log.now c.args.entries.now.entries read.0 read.1 log.0
    log.1 _ (ap (map output_path) c.deref.ensures.value ∙ log.2.names) _ c.in_err-paths.ensures)

pub returns : goal.returns
returns c = λ m.
    let read = c.in_ok-metadata.ensures in
    let log = c.in_ok-log.ensures in
    let outputs = c.in_ok-paths.ensures in (
      parts_of_both c.args.limit m c.args.log.now c.args.entries.now.entries read.0 log.0,
      parts_made c.args.limit m c.args.log.now c.args.entries.now.entries read.0 read.1 log.0 log.1
          _ (ap (map output_path) c.deref.ensures.value ∙ log.2.names) outputs.0 outputs.1,
      record {
        run_is = refl;
        metadata = read.2;
        log = log.2.text;
        events = log.2.count;
        paths =
            subst (λ (ps : List (List ℕ)). ArePaths ps c.in_ok-paths.paths)
            (ap (map output_path) c.deref.ensures.value ∙ log.2.names) outputs.2;
        outputs = refl;
      },
    )
