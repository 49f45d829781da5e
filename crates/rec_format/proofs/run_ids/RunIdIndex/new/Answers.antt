use Rattle.std.proofs.Common.{◌≡◌, ◌∷◌, ◌+◌, [], sym, ◌∙◌, ap, drop, subst}
use Rattle.std.proofs.lemmas.List.{drop_more, drop_all}
use Rattle.rec_format.proofs.run_ids.RunIdIndex.new.Goals as goal
use Rattle.rec_format.proofs.RunIdMaps.{IsPartOf, IsPartOf-start, IsPartOf-put, IsPartOf-end}

pub loop-id-init : goal.loop-id-init
loop-id-init c = rw c.new-entries.ensures.empty (IsPartOf-start c.args.ids.now)

pub loop-id-preserved : goal.loop-id-preserved
loop-id-preserved c =
    let ids = c.args.ids.now in
    let i = c.loop-id.id-index in
    let id = c.id-item.result in
    let entries = c.loop-id.entries.entries in
    let next : drop i ids ≡ id ∷ drop (i + 1) ids =
    drop_more ids i id c.loop-id-test.true ∙ ap (λ x. x ∷ drop (i + 1) ids) (sym c.id-item.is) in
    let part = subst (λ rest. IsPartOf ids entries rest) next c.loop-id.invariant in
    rw c.in_ok-insert.ensures.entries
    (IsPartOf-put ids (drop (i + 1) ids) entries c.in_ok-text.text id part c.in_ok-text.ensures)

pub invariant_of-result : goal.invariant_of-result
invariant_of-result c = c.loop-id.invariant.texts

pub returns : goal.returns
returns c =
    let none : drop c.loop-id.id-index c.args.ids.now ≡ [] =
    drop_all c.loop-id.id-index c.args.ids.now c.loop-id-test.false in
    IsPartOf-end c.args.ids.now c.loop-id.entries.entries (subst
    (λ rest. IsPartOf c.args.ids.now c.loop-id.entries.entries rest) none c.loop-id.invariant)
