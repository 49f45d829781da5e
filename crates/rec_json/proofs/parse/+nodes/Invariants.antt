use Rattle.std.proofs.Common.{◌≡◌, ℕ, ◌+◌, ◌*◌, ◌≤◌, length}
use Rattle.json.specs.Json.{value, items, members}
use Rattle.serde_json.specs.Data.{no_members}
use Rattle.serde_json.specs.Read.{converted, of_items}
use Rattle.rec_json.proofs.Found.{after}
use Rattle.rec_json.proofs.parse.+nodes.Given as goal
use Rattle.rec_json.proofs.ReadSteps.{into}
use Rattle.rec_json.specs.Nodes.{members_view}

abbrev pub decreases-read_node : goal.decreases-read_node
decreases-read_node l = 2 * l.depth

abbrev pub decreases-read_items : goal.decreases-read_items
decreases-read_items l = 2 * l.depth + 1

abbrev pub decreases-read_members : goal.decreases-read_members
decreases-read_members l = 2 * l.depth + 1

-- what is left completes the list
abbrev pub invariant-read_items-items : goal.invariant-read_items-items
invariant-read_items-items l =
    record {
      turns : ℕ;
      enough : length l.reader ≤ turns;
      whole : converted of_items (items (value l.depth) (length l.initial.reader) l.initial.reader)
          ≡ after l.found.items (converted of_items (items (value l.depth) turns l.reader));
      shorter : length l.reader ≤ length l.initial.reader;
    }

abbrev pub decreases-read_items-items : goal.decreases-read_items-items
decreases-read_items-items l = length l.reader

-- what is left is put into what was found
abbrev pub invariant-read_members-members : goal.invariant-read_members-members
invariant-read_members-members l =
    record {
      turns : ℕ;
      enough : length l.reader ≤ turns;
      whole : converted (into no_members)
          (members (value l.depth) (length l.initial.reader) l.initial.reader)
          ≡ converted (into (members_view l.found.items)) (members (value l.depth) turns l.reader);
      shorter : length l.reader ≤ length l.initial.reader;
    }

abbrev pub decreases-read_members-members : goal.decreases-read_members-members
decreases-read_members-members l = length l.reader
