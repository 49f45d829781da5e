use Rattle.std.proofs.Common.{◌≡◌, arith}
use Rattle.rec_sample.proofs.EventLines.{so_far_first, so_far_more, so_far_last}
use Rattle.rec_sample.proofs.session.sample_session.Goals as goal
use Rattle.rec_sample.specs.Batches.{batch_count}

pub loop-batch-init : goal.loop-batch-init
loop-batch-init c =
    so_far_first c.args.tests c.in_ok-session.session.items c.append_event.new.session.items
    c.in_ok-run_started.field-0 c.in_ok-session.ensures c.in_ok-run_started.ensures.value
    c.in_ok-append_event.ensures

pub loop-batch-preserved : goal.loop-batch-preserved
loop-batch-preserved c =
    so_far_more c.args.tests c.loop-batch.batch c.loop-batch.session.items
    c.append_batch.new.session.items c.loop-batch.invariant c.in_ok-append_batch.ensures

pub returns : goal.returns
returns c =
    let all : c.loop-batch.batch ≡ batch_count c.args.tests = omega arith in
    so_far_last
    c.args.tests
    c.loop-batch.batch
    c.loop-batch.session.items
    c.append_event-2.new.session.items
    c.run_finished.result
    all
    c.loop-batch.invariant
    c.run_finished.ensures.value
    c.in_ok-append_event-2.ensures
