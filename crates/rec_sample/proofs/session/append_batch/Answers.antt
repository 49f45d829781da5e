use Rattle.std.proofs.lemmas.Result.{on_ok_weaker}
use Rattle.rec_sample.proofs.EventLines.{batch_lines}
use Rattle.rec_sample.proofs.session.append_batch.Goals as goal

pub returns : goal.returns
returns c =
    on_ok_weaker c.append_ends.result (batch_lines c.args.tests c.args.batch
    c.args.session.now.items c.append_starts.new.session.items c.append_pause.new.session.items
    c.append_ends.new.session.items
    c.in_ok-append_starts.ensures c.in_ok-append_pause.ensures) c.append_ends.ensures
