use Rattle.std.proofs.Common.{◌≡◌, sym, ap, ◌∙◌, ℕ, ◌+◌, ◌<◌, List, ◌∷◌, ◌++◌}
use Rattle.std.proofs.Common.{length, drop, get_or, append_assoc, append-nil, map}
use Rattle.std.proofs.lemmas.List.{at_drop_all, drop_more}
use Rattle.std.specs.List.{flat_map}
use Rattle.rec_events.specs.EventMaps.{of_status}
use Rattle.rec_store.proofs.output_names.add_attempts.Goals as goal
use Rattle.rec_store.specs.Kept.{description_paths}
use Rattle.rec_store.specs.OutputPaths.{output_path}

-- what is left after one more completes the same whole
one_more : {A B : Type 0} (paths : A → List B) (items : List A) (i : ℕ) (a : A)
    (before after whole : List B)
    → i < length items → a ≡ get_or items i a → after ≡ before ++ paths a
    → before ++ flat_map paths (drop i items) ≡ whole
    → after ++ flat_map paths (drop (i + 1) items) ≡ whole
one_more {A} paths items i a before after whole within here added left =
    let next : drop i items ≡ a ∷ drop (i + 1) items =
    drop_more items i a within ∙ ap (λ x. x ∷ drop (i + 1) items) (sym here) in
    let rest = flat_map paths (drop (i + 1) items) in
    ap (λ l. l ++ rest) added ∙ append_assoc before (paths a) rest
    ∙ ap (λ (l : List A). before ++ flat_map paths l) (sym next) ∙ left

pub loop-attempt-preserved : goal.loop-attempt-preserved
loop-attempt-preserved c =
    one_more (of_status description_paths) c.args.attempts.now c.loop-attempt.attempt-index
    c.attempt-item.result _ _ _ c.loop-attempt-test.true c.attempt-item.is
    c.in_ok-add_execution.ensures c.loop-attempt.invariant

pub returns : goal.returns
returns c =
    let paths = of_status description_paths in
    let names = map output_path c.loop-attempt.names.items in
    let none = at_drop_all (flat_map paths)
    c.args.attempts.now c.loop-attempt.attempt-index c.loop-attempt-test.false in
    sym (append-nil names) ∙ ap (λ l. names ++ l) (sym none) ∙ c.loop-attempt.invariant
