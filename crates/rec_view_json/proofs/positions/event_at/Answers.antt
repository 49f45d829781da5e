use Rattle.rec_view_json.proofs.Places.{item_at}
use Rattle.rec_view_json.proofs.positions.event_at.Goals as goal

pub returns : goal.returns
returns g c = item_at c.args.events.now c.args.at c.get.result c.get.ensures.lookup
