use Rattle.std.proofs.Common.{◌≡◌, ◌<◌, ◌+◌, ℕ, List, [], ◌∷◌, ◌++◌, length, get_or}
use Rattle.std.proofs.Common.{drop, append_assoc, append-nil, arith, ap, sym, ◌∙◌}
use Rattle.std.proofs.lemmas.List.{drop_all, drop_more}
use Rattle.rec_events.proofs.items.ItemsTryClone.try_clone.Goals as goal

-- one more item was copied
one_more : {T : Type 0} (done new xs : List T) (i : ℕ) (x d : T) → i < length xs
    → done ++ drop i xs ≡ xs → x ≡ get_or xs i d → new ≡ done ++ x ∷ []
    → new ++ drop (i + 1) xs ≡ xs
one_more done new xs i x d more whole same pushed =
    ap (λ l. l ++ drop (i + 1) xs) pushed ∙ append_assoc done (x ∷ []) (drop (i + 1) xs)
    ∙ ap (λ y. done ++ y ∷ drop (i + 1) xs) same
    ∙ ap (λ l. done ++ l) (sym (drop_more xs i d more)) ∙ whole

pub loop-item-init : goal.loop-item-init
loop-item-init g c = ap (λ l. l ++ c.as_slice-item-items.result.now) c.new-inner.ensures.items

pub loop-item-preserved : goal.loop-item-preserved
loop-item-preserved g c =
    one_more c.loop-item.inner.items c.push.new.self.items c.as_slice-item-items.result.now
    c.loop-item.item-index _ c.item-item.result c.loop-item-test.true c.loop-item.invariant
    (c.in_ok-try_clone.ensures.copy ∙ c.item-item.is) c.in_ok-push.ensures.items

pub loop-item-smaller : goal.loop-item-smaller
loop-item-smaller g c = omega (arith, c.loop-item-test.true)

pub returns : goal.returns
returns g c =
    let all = c.as_slice-item-items.result.now in
    let items = c.loop-item.inner.items in
    record {
      copy = sym (append-nil items) ∙ ap (λ l. items ++ l)
          (sym (drop_all c.loop-item.item-index all (omega (arith, c.loop-item-test.false))))
          ∙ c.loop-item.invariant ∙ c.as_slice-item-items.ensures;
    }
