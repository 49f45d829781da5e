use Rattle.rec_session.proofs.Refusals.{set_up_cause}
use Rattle.rec_session.proofs.session.set_up_locked.Goals as goal
use Rattle.rec_session.specs.Creating.{first_entries}

pub returns-in-Err-start-clause-cause : goal.returns-in-Err-start-clause-cause
returns-in-Err-start-clause-cause g c =
    set_up_cause (first_entries c.args.plan.build_scope c.args.plan.rerun_info)
    (g.K.RunKeeper.faults c.args.keeper.now) (g.K.RunKeeper.faults c.create_run.new.keeper)
    (g.S.Sink.faults c.args.plan.store) (g.S.Sink.faults c.in-Err-start.failed.store)
    c.in-Err-start.failed.error c.in-Err-start.ensures.cause
