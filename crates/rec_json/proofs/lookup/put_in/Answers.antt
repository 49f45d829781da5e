use Rattle.std.proofs.Common.{ap, ◌∙◌}
use Rattle.rec_json.proofs.lookup.put_in.Goals as goal
use Rattle.rec_json.proofs.LookupSteps.{sorted_view-insert_entry}
use Rattle.rec_json.specs.Nodes.{sorted_view}

pub returns : goal.returns
returns c =
    ap sorted_view c.in_ok-insert.ensures.entries
    ∙ sorted_view-insert_entry c.args.members.now.entries c.args.key c.args.node
