use Rattle.rec_spans.specs.Plain.{plain_kind}
use Rattle.rec_trace.proofs.known.Known.prepare.Goals as goal
use Rattle.rec_trace.proofs.KnownNews.{tells}

pub returns-in-Ok-clause-tells : goal.returns-in-Ok-clause-tells
returns-in-Ok-clause-tells g c =
    tells c.args.flow c.args.started.now (plain_kind c.args.event.now.kind)
    _ _ c.in_ok-news.news c.row_to_name-row.ensures c.new_test-test.ensures c.in_ok-news.ensures
