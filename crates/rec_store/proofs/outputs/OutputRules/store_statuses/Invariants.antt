use Rattle.std.proofs.Common.{◌≡◌, ◌++◌, length, map, false}
use Rattle.std.specs.List.{flat_map}
use Rattle.std.specs.Vec.Iter.{into_iter_items, into_iter_len}
use Rattle.rec_container.specs.Writing.{Writing}
use Rattle.rec_store.proofs.outputs.OutputRules.store_statuses.Given as goal
use Rattle.rec_store.specs.declared.error.RunStoreError.{RunStoreError}
use Rattle.rec_store.specs.EventOutputs.{status_entries, status_recorded}
use Rattle.rec_store.specs.Recording.{AddsEach}
use Rattle.rec_store.specs.Stopping.{Stops}

-- what is left completes what was stored
abbrev pub invariant-loop-status : goal.invariant-loop-status
invariant-loop-status g l =
    let number = g.N.OutputNamer.number l.fn.self.namer.now in
    let m = l.fn.self.max_size in
    let entries = flat_map (status_entries number m) in
    let rest = into_iter_items l.status-iterator in
    let all = into_iter_items l.initial.status-iterator in
    record {
      count : into_iter_len l.status-iterator ≡ length rest;
      sound : l.store.failed ≡ false;
      recorded : l.recorded.items ++ map (status_recorded number m) rest
          ≡ map (status_recorded number m) all;
      added : (new : Writing _) → AddsEach g.S.Sink.taken g.S.Sink.faults l.store new (entries rest)
          → AddsEach g.S.Sink.taken g.S.Sink.faults l.fn.store new (entries all);
      stops : (new : Writing _) (e : RunStoreError)
          → Stops g.S.Sink.taken g.S.Sink.faults l.store new (entries rest) e
          → Stops g.S.Sink.taken g.S.Sink.faults l.fn.store new (entries all) e;
    }
