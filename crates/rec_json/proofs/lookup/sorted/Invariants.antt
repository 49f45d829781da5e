use Rattle.std.proofs.Common.{◌≡◌, take}
use Rattle.rec_json.proofs.lookup.sorted.Given as goal
use Rattle.rec_json.specs.Nodes.{members_view, sorted_view}

abbrev pub invariant-loop-key : goal.invariant-loop-key
invariant-loop-key l = sorted_view l.members.entries ≡ members_view (take l.key-index l.object)
