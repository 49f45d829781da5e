use Rattle.std.proofs.Common.{ap}
use Rattle.rec_store.specs.Recording.{has_failed}
use Rattle.rec_session.proofs.creating.RecorderPlan.start.Goals as goal
use Rattle.rec_session.proofs.Refusals.{ends_refused, first_new, start_cause}
use Rattle.rec_session.specs.Creating.{first_entries}

pub returns-in-Err-clause-err : goal.returns-in-Err-clause-err
returns-in-Err-clause-err g c =
    rw c.end_refused.ensures.error (rw c.new-recorder.ensures.made at
    (ends_refused g.S.Sink.taken g.S.Sink.faults c.new-recorder.result
    (first_entries c.args.self.build_scope c.args.self.rerun_info)
    c.end_refused.result.store c.in-Err.error (record {
      left = c.write_first-written.new.recorder;
      unstored = c.in-Err.ensures.err;
      ends = c.end_refused.ensures.ends;
      later = c.end_refused.ensures.later;
    })))

pub returns-in-Err-clause-cause : goal.returns-in-Err-clause-cause
returns-in-Err-clause-cause g c =
    rw c.end_refused.ensures.error (rw c.new-recorder.ensures.made at
    (start_cause g.S.Sink.taken g.S.Sink.faults c.new-recorder.result
    (first_entries c.args.self.build_scope c.args.self.rerun_info) c.end_refused.result.store
    (ap (λ r. has_failed r) c.new-recorder.ensures.made)
    (ap (λ r. r.store.entries) c.new-recorder.ensures.made)
    (first_new c.args.self.build_scope c.args.self.rerun_info) c.in-Err.error (record {
      left = c.write_first-written.new.recorder;
      unstored = c.in-Err.ensures.err;
      ends = c.end_refused.ensures.ends;
      later = c.end_refused.ensures.later;
    })))
