use Rattle.std.proofs.Common.{◌≡◌, List, Err, Ok, map, refl, subst}
use Rattle.std.proofs.lemmas.Result.{err_from_is_err_and}
use Rattle.rec_events.specs.declared.output_names.OutputFileName.{OutputFileName}
use Rattle.rec_store.specs.Kept.{event_paths}
use Rattle.rec_store.specs.OutputPaths.{output_path}
use Rattle.rec_reading.proofs.outputs.find_all.Goals as goal
use Rattle.rec_reading.proofs.OutputsPrinted.{at_index, found-all, found-more, found-none}
use Rattle.rec_reading.specs.Outputs.{all_found, named_paths}
use Rattle.rec_reading.specs.RunParts.{Answers}

pub loop-event-preserved : goal.loop-event-preserved
loop-event-preserved c =
    let l = c.loop-event in
    let es = c.args.store.now.entries in
    let event = c.event-item.result in
    found-more es event_paths named_paths (λ e rest. refl) refl c.args.events.now l.event-index
    l.invariant event
    (at_index c.args.events.now l.event-index event c.loop-event-test.true c.event-item.is)
    (subst (λ paths. all_found es paths ≡ Ok tt) c.in_ok-names.ensures
    (subst (λ (ns : List OutputFileName). all_found es (map output_path ns) ≡ Ok tt)
    c.deref.ensures.value c.in_ok-find_named.ensures))

pub returns-in_err-find_named : goal.returns-in_err-find_named
returns-in_err-find_named c =
    let l = c.loop-event in
    let es = c.args.store.now.entries in
    let event = c.event-item.result in
    let p = err_from_is_err_and c.from_residual-in_err-find_named.result
    c.from_residual-in_err-find_named.ensures.1 in
    let e = c.in_err-find_named.field-0.0 in
    rw (p.1, p.2) (found-none es event_paths named_paths (λ v rest. refl) refl c.args.events.now
    l.event-index l.invariant event
    (at_index c.args.events.now l.event-index event c.loop-event-test.true c.event-item.is) e
    (subst (λ paths. Answers (all_found es paths) (Err e)) c.in_ok-names.ensures
    (subst (λ (ns : List OutputFileName). Answers (all_found es (map output_path ns)) (Err e))
    c.deref.ensures.value c.in_err-find_named.ensures)))

pub returns : goal.returns
returns c =
    let l = c.loop-event in
    found-all c.args.store.now.entries event_paths named_paths (λ e rest. refl) refl
    c.args.events.now l.event-index l.invariant c.loop-event-test.false
