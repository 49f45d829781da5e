use Rattle.std.proofs.Common.{◌≡◌, [], ◌∷◌, ◌++◌, sym, ap, ◌∙◌, subst, append_assoc}
use Rattle.std.specs.List.Sorted.{IsStrictlySortedBy}
use Rattle.std.specs.Map.{keys_of}
use Rattle.std.specs.String.{string_cmp}
use Rattle.serde_json.proofs.Views.{Entry, put_last}
use Rattle.rec_json.proofs.Found.{members_view-one_more}
use Rattle.rec_json.proofs.values.+values.Goals as goal
use Rattle.rec_json.specs.Nodes.{members_view}

pub seen_members-loop-key-preserved : goal.seen_members-loop-key-preserved
seen_members-loop-key-preserved t c =
    let l = c.loop-key in
    let done = l.invariant.0 in
    let e : Entry = (c.in-Some.key.now, c.in-Some.value.now) in
    let left = c.next.new.self in
    let all : c.args.object.now.entries ≡ done ++ e ∷ left =
    l.invariant.1 ∙ ap (λ es. done ++ es) c.in-Some.ensures.steps in
    let last = put_last done e left (subst (λ es. IsStrictlySortedBy string_cmp (keys_of es)) all
    c.iter-key-items.ensures.ordered) in (
      done ++ e ∷ [],
      all ∙ sym (append_assoc done (e ∷ []) left),
      ap members_view c.in_ok-push.ensures.items
          ∙ members_view-one_more l.members.items c.as_str.result c.in_ok-node.node
          ∙ rw (c.as_str.ensures.value, c.in_ok-node.ensures, l.invariant.2) last,
    )
