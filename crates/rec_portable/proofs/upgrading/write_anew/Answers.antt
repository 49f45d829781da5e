use Rattle.std.proofs.Common.{◌<◌, ◌^◌, inr, ℕ, List, Ok, Err, ap}
use Rattle.std.proofs.Common.{length, map, refl, sym, subst, ◌∙◌}
use Rattle.std.proofs.lemmas.Result.{err_from_is_err_and}
use Rattle.rec_container.specs.Container.{spell}
use Rattle.rec_container.specs.NamedContents.{entry_of}
use Rattle.rec_portable.proofs.RewrittenStores.{bundle_same, bundle_texts, judged_texts}
use Rattle.rec_portable.proofs.RewrittenStores.{settled_same, short_bundle, sizes_passed}
use Rattle.rec_portable.proofs.RewrittenStores.{sizes_refused, sizes_same, store_refused, too_long}
use Rattle.rec_portable.proofs.upgrading.write_anew.Goals as goal

pub returns-in_err-store-clause-err : goal.returns-in_err-store-clause-err
returns-in_err-store-clause-err c = λ p made.
    let e = err_from_is_err_and c.from_residual.result c.from_residual.ensures.1 in
    rw (e.1, e.2) (store_refused p c.args.limit (map entry_of c.args.contents.now) _ made.store_is
    c.in_err-store.ensures.err)

pub returns-in_default-clause-err : goal.returns-in_default-clause-err
returns-in_default-clause-err c = λ p made.
    let m = c.args.manifest.now in
    let es = map entry_of c.args.contents.now in
    let text = settled_same p m c.args.texts es made _ _ c.in_ok-manifest.ensures
    (sizes_same p m c.args.texts es made c.len-log_bytes.result c.in_ok-store.store.sizes
    (c.len-log_bytes.ensures ∙ c.args.texts.log.ok.0) c.in_ok-store.ensures.ok.1) in
    let same = bundle_texts _ _ _ _ _ _ c.deref.ensures.value c.deref-2.ensures.value
    c.deref-3.ensures.value in
    inr (too_long p m c.args.texts es made c.in_ok-manifest.manifest.items
    c.in_ok-store.store.bytes.items text c.in_ok-store.ensures.ok.0 c.args.limit
    (λ short. c.in_default.ensures (subst (λ (b : List ℕ). length b < 2 ^ 64) (sym same) short)))

pub returns-in_err-judge_sizes-clause-err : goal.returns-in_err-judge_sizes-clause-err
returns-in_err-judge_sizes-clause-err c = λ p made.
    let m = c.args.manifest.now in
    let es = map entry_of c.args.contents.now in
    let text = settled_same p m c.args.texts es made _ _ c.in_ok-manifest.ensures
    (sizes_same p m c.args.texts es made c.len-log_bytes.result c.in_ok-store.store.sizes
    (c.len-log_bytes.ensures ∙ c.args.texts.log.ok.0) c.in_ok-store.ensures.ok.1) in
    let same = bundle_texts _ _ _ _ _ _ c.deref.ensures.value c.deref-2.ensures.value
    c.deref-3.ensures.value in
    let short = subst (λ (b : List ℕ). length b < 2 ^ 64) same c.in-Some.ensures.0 in
    let e = err_from_is_err_and c.from_residual-in_err-judge_sizes.result
    c.from_residual-in_err-judge_sizes.ensures.1 in
    rw (e.1, e.2) (sizes_refused p m c.args.texts es made c.in_ok-manifest.manifest.items
    c.in_ok-store.store.bytes.items text c.in_ok-store.ensures.ok.0 c.args.limit short _
    (judged_texts c.args.limit _ _ _ _ es (Err c.in_err-judge_sizes.field-0.0)
    c.deref-4.ensures.value c.deref-5.ensures.value c.in_err-judge_sizes.ensures))

pub returns-clause-ok : goal.returns-clause-ok
returns-clause-ok c = λ p made.
    let m = c.args.manifest.now in
    let es = map entry_of c.args.contents.now in
    let text = settled_same p m c.args.texts es made _ _ c.in_ok-manifest.ensures
    (sizes_same p m c.args.texts es made c.len-log_bytes.result c.in_ok-store.store.sizes
    (c.len-log_bytes.ensures ∙ c.args.texts.log.ok.0) c.in_ok-store.ensures.ok.1) in
    let same = bundle_texts _ _ _ _ _ _ c.deref.ensures.value c.deref-2.ensures.value
    c.deref-3.ensures.value in
    let store = c.in_ok-store.ensures.ok.0 in
    let short = subst (λ (b : List ℕ). length b < 2 ^ 64) same c.in-Some.ensures.0 in
    let bundle = bundle_same p m c.args.texts es made c.in_ok-manifest.manifest.items
    c.in_ok-store.store.bytes.items text store in (
      sizes_passed p m c.args.texts es made c.in_ok-manifest.manifest.items
          c.in_ok-store.store.bytes.items text store c.args.limit short
          (judged_texts c.args.limit _ _ _ _ es (Ok tt)
          c.deref-4.ensures.value c.deref-5.ensures.value c.in_ok-judge_sizes.ensures),
      record {
        manifest = text;
        log = made.log;
        store = store ∙ ap spell made.store_is;
        short =
            short_bundle p m c.args.texts es made c.in_ok-manifest.manifest.items
            c.in_ok-store.store.bytes.items text store c.args.limit short;
        counts = record {
          events = made.events;
          outputs = made.outputs;
          bundle_bytes = c.in-Some.ensures.1 ∙ ap length (same ∙ bundle);
        };
      },
    )
