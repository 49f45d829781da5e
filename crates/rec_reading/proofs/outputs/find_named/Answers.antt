use Rattle.std.proofs.Common.{◌∷◌, [], get_or, map, refl}
use Rattle.std.proofs.lemmas.Result.{err_from_is_err_and}
use Rattle.rec_store.specs.OutputPaths.{output_path}
use Rattle.rec_reading.proofs.outputs.find_named.Goals as goal
use Rattle.rec_reading.proofs.OutputsPrinted.{alone-found, alone-missing, at_place, found-all}
use Rattle.rec_reading.proofs.OutputsPrinted.{found-more, found-none, no_name}

pub loop-name-preserved : goal.loop-name-preserved
loop-name-preserved c =
    let l = c.loop-name in
    let es = c.args.store.now.entries in
    let name = get_or c.args.names.now l.name-index no_name in
    found-more es (λ n. output_path n ∷ []) (map output_path) (λ n ns. refl) refl
    c.args.names.now l.name-index l.invariant name
    (at_place c.args.names.now l.name-index no_name c.loop-name-test.true)
    (alone-found es (output_path name) c.in_ok-find.ensures)

pub returns-in_err-find : goal.returns-in_err-find
returns-in_err-find c =
    let l = c.loop-name in
    let es = c.args.store.now.entries in
    let name = get_or c.args.names.now l.name-index no_name in
    let p = err_from_is_err_and c.from_residual.result c.from_residual.ensures.1 in
    let e = c.in_err-find.field-0.0 in
    rw (p.1, p.2) (found-none es (λ n. output_path n ∷ []) (map output_path) (λ n ns. refl) refl
    c.args.names.now l.name-index l.invariant name
    (at_place c.args.names.now l.name-index no_name c.loop-name-test.true) e
    (alone-missing es (output_path name) e c.in_err-find.ensures))

pub returns : goal.returns
returns c =
    let l = c.loop-name in
    found-all c.args.store.now.entries (λ n. output_path n ∷ []) (map output_path) (λ n ns. refl)
    refl c.args.names.now l.name-index l.invariant c.loop-name-test.false
