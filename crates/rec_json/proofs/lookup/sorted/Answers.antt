use Rattle.std.proofs.Common.{◌≡◌, ◌+◌, [], ◌∷◌, ◌++◌, sym, take, ap, ◌∙◌}
use Rattle.std.proofs.lemmas.List.{take_more}
use Rattle.serde_json.specs.Data.{put}
use Rattle.rec_json.proofs.Found.{members_view-one_more}
use Rattle.rec_json.proofs.lookup.sorted.Goals as goal
use Rattle.rec_json.specs.Nodes.{members_view, view}

pub loop-key-preserved : goal.loop-key-preserved
loop-key-preserved c =
    let object = c.args.object.now in
    let i = c.loop-key.key-index in
    let e = c.loop-key-item.result in
    let more : take (i + 1) object ≡ take i object ++ e ∷ [] =
    take_more object i e c.loop-key-test.true
    ∙ ap (λ x. take i object ++ x ∷ []) (sym c.loop-key-item.is) in
    c.in_ok-put_in.ensures ∙ ap (put e.0.now (view e.1)) c.loop-key.invariant
    ∙ sym (members_view-one_more (take i object) e.0 e.1) ∙ ap members_view (sym more)
