use Rattle.std.proofs.Common.{◌≡◌, List, ◌++◌, map, take}
use Rattle.serde_json.proofs.Views.{Entry}
use Rattle.serde_json.specs.View.{members_view as value_members, view as value_view}
use Rattle.rec_json.proofs.values.+values.Given as goal
use Rattle.rec_json.specs.Nodes.{members_view, view}

-- those before are seen
abbrev pub invariant-seen_items-loop-value : goal.invariant-seen_items-loop-value
invariant-seen_items-loop-value l =
    map view l.items.items ≡ map value_view (take l.value-index l.value-items)

abbrev pub invariant-seen_members-loop-key : goal.invariant-seen_members-loop-key
invariant-seen_members-loop-key l =
    (done : List Entry) × (l.object.entries ≡ done ++ l.key-iterator)
    × (members_view l.members.items ≡ value_members done)
