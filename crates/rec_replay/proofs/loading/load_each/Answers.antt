use Rattle.std.proofs.Common.{◌∙◌, ap, map, rules}
use Rattle.std.proofs.lemmas.List.{take_all}
use Rattle.std.proofs.lemmas.Result.{err_from_is_err_and}
use Rattle.rec_events.specs.declared.outputs.LiveSpec.{LiveSpec}
use Rattle.rec_events.specs.EventMaps.{of_status, status_with}
use Rattle.rec_replay.proofs.Loaded.{loads_wanting}
use Rattle.rec_replay.proofs.LoadedEach.{loads_done, loads_more, loads_stop, same_more}
use Rattle.rec_replay.proofs.loading.load_each.Goals as goal
use Rattle.rec_replay.specs.Loading.{description_names, description_loaded}
use Rattle.rec_replay.specs.Replaying.{left_out, unloaded}

pub returns-in_err-status-clause-loads : goal.returns-in_err-status-clause-loads
returns-in_err-status-clause-loads g c =
    let p = err_from_is_err_and c.from_residual.result c.from_residual.ensures.1 in
    rw (p.1, p.2) (loads_stop (of_status (description_names c.args.load))
    (λ es. status_with (description_loaded c.args.load es))
    _ _ _ _ _ _ _ _ _ _ c.args.statuses.now c.loop-status.status-index c.status-item.result
    c.loop-status.loaded.items _ c.loop-status-test.true c.status-item.is
    c.loop-status.invariant.loads c.in_err-status.ensures.loads)

pub returns-in_err-status-clause-same_reader : goal.returns-in_err-status-clause-same_reader
returns-in_err-status-clause-same_reader g c =
    c.in_err-status.ensures.same_reader ∙ c.loop-status.invariant.same_reader

pub returns-in_err-status-clause-skipped : goal.returns-in_err-status-clause-skipped
returns-in_err-status-clause-skipped g c =
    λ h. c.in_err-status.ensures.skipped h ∙ c.loop-status.invariant.skipped h

pub returns-in_err-push-clause-loads : goal.returns-in_err-push-clause-loads
returns-in_err-push-clause-loads g c =
    let p =
    err_from_is_err_and c.from_residual-in_err-push.result c.from_residual-in_err-push.ensures.1 in
    rw (p.1, p.2) (loads_wanting _ _ _ _ _ _ _ _ _ _ _ _ _ _ _ _ _ c.loop-status.invariant.loads
    c.in_ok-status.ensures.loads)

pub returns-in_err-push-clause-same_reader : goal.returns-in_err-push-clause-same_reader
returns-in_err-push-clause-same_reader g c =
    c.in_ok-status.ensures.same_reader ∙ c.loop-status.invariant.same_reader

pub returns-in_err-push-clause-skipped : goal.returns-in_err-push-clause-skipped
returns-in_err-push-clause-skipped g c =
    λ h. c.in_ok-status.ensures.skipped h ∙ c.loop-status.invariant.skipped h

pub loop-status-preserved : goal.loop-status-preserved
loop-status-preserved g c =
    record {
      loads =
          loads_more (of_status (description_names c.args.load))
          (λ es. status_with (description_loaded c.args.load es))
          _ _ _ _ _ _ _ _ _ c.args.statuses.now c.loop-status.status-index c.status-item.result
          c.loop-status.loaded.items _ c.in_ok-status.status c.loop-status-test.true
          c.status-item.is c.in_ok-push.ensures.items c.loop-status.invariant.loads
          c.in_ok-status.ensures.loads;
      same_reader = c.in_ok-status.ensures.same_reader ∙ c.loop-status.invariant.same_reader;
      skipped = λ h. c.in_ok-status.ensures.skipped h ∙ c.loop-status.invariant.skipped h;
      apart =
          same_more (status_with left_out) (status_with {T = LiveSpec} unloaded)
          c.args.statuses.now c.loop-status.status-index c.status-item.result
          c.loop-status.loaded.items _ c.in_ok-status.status
          c.loop-status-test.true c.status-item.is c.in_ok-push.ensures.items
          c.loop-status.invariant.apart c.in_ok-status.ensures.apart;
      as_many = rw c.in_ok-push.ensures.items (search rules);
    }

pub returns-clause-loads : goal.returns-clause-loads
returns-clause-loads g c =
    rw c.new.ensures (loads_done (of_status (description_names c.args.load))
    (λ es. status_with (description_loaded c.args.load es))
    _ _ _ _ _ _ c.args.statuses.now c.loop-status.status-index
    c.loop-status.loaded.items c.loop-status-test.false c.loop-status.invariant.loads)

pub returns-clause-apart : goal.returns-clause-apart
returns-clause-apart g c =
    rw c.new.ensures (c.loop-status.invariant.apart ∙ ap (map (status_with {T = LiveSpec} left_out))
    (take_all c.loop-status.status-index c.args.statuses.now c.loop-status-test.false))
