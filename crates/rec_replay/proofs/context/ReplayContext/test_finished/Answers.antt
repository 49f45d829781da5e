use Rattle.std.proofs.lemmas.Result.{err_from_is_err_and}
use Rattle.rec_replay.proofs.context.ReplayContext.test_finished.Goals as goal
use Rattle.rec_replay.proofs.Converted.{replays_loaded, replays_unread, not_refused}

pub returns-in_err-run_statuses-clause-replays : goal.returns-in_err-run_statuses-clause-replays
returns-in_err-run_statuses-clause-replays g c =
    let p = err_from_is_err_and c.from_residual-in_err-run_statuses.result
    c.from_residual-in_err-run_statuses.ensures.1 in
    rw (p.1, p.2, c.in-TestFinished.is) (replays_unread _ _ _ _ _ _ _ _ _ _ _
    c.in_ok-test_instance.ensures.0 c.in_err-run_statuses.ensures.loads)

pub returns-in_err-run_statuses-clause-refused : goal.returns-in_err-run_statuses-clause-refused
returns-in_err-run_statuses-clause-refused g c =
    λ e h. let i = rw c.in-TestFinished.is at h in
    absurd (not_refused _ e c.in_ok-test_instance.ensures.0 i)

pub returns-clause-replays : goal.returns-clause-replays
returns-clause-replays g c =
    rw c.in-TestFinished.is (replays_loaded _ _ _ _ _ _ _ _ _ _ _ _ c.in_ok-test_instance.ensures.0
    (λ es h. rw (h, c.in_ok-test_instance.ensures.1, c.replay_index.ensures))
    c.in_ok-run_statuses.ensures.loads)

pub returns-clause-refused : goal.returns-clause-refused
returns-clause-refused g c =
    λ e h. let i = rw c.in-TestFinished.is at h in
    absurd (not_refused _ e c.in_ok-test_instance.ensures.0 i)

pub returns-clause-apart : goal.returns-clause-apart
returns-clause-apart g c =
    rw (
      c.in-TestFinished.is,
      c.in_ok-test_instance.ensures.1,
      c.replay_index.ensures,
      c.in_ok-run_statuses.ensures.apart,
    )
