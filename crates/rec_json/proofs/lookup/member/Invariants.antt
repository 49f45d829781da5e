use Rattle.std.proofs.Common.{◌≡◌, ◌≤◌, length, take}
use Rattle.serde_json.specs.Find.{get_member}
use Rattle.rec_json.proofs.lookup.member.Given as goal
use Rattle.rec_json.specs.Nodes.{members_view}

-- the key isn't found further on
abbrev pub invariant-last : goal.invariant-last
invariant-last l = record {
  within : l.end ≤ length l.object;
  same : get_member l.key (members_view l.object)
      ≡ get_member l.key (members_view (take l.end l.object));
}

abbrev pub decreases-last : goal.decreases-last
decreases-last l = l.end
