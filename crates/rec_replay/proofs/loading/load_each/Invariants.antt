use Rattle.std.proofs.Common.{◌≡◌, length, map, take, Ok}
use Rattle.std.specs.List.{flat_map}
use Rattle.rec_events.specs.declared.outputs.LiveSpec.{LiveSpec}
use Rattle.rec_events.specs.EventMaps.{of_status, status_with}
use Rattle.rec_replay.proofs.loading.load_each.Given as goal
use Rattle.rec_replay.specs.declared.output_load.LoadOutput.TheVariants.{Skip}
use Rattle.rec_replay.specs.Loading.{Loads, description_names, description_loaded}
use Rattle.rec_replay.specs.Replaying.{left_out, unloaded}

-- what was read so far
abbrev pub invariant-loop-status : goal.invariant-loop-status
invariant-loop-status g l =
    let prefix = take l.status-index l.statuses in
    let before = l.fn.reader.now in
    let now = l.reader.now in
    let old = goal.StoreReader-dyn g before in
    let new = goal.StoreReader-dyn g now in
    record {
      loads : Loads (old.limit before.1) (new.limit now.1) (old.failures before.1)
          (new.failures now.1) (old.holds before.1) (new.holds now.1)
          (flat_map (of_status (description_names l.load)) prefix)
          (λ es. map (status_with (description_loaded l.load es)) prefix) (Ok l.loaded.items);
      same_reader : now.0 ≡ before.0;
      skipped : l.load ≡ Skip → now ≡ before;
      apart : map (status_with {T = LiveSpec} unloaded) l.loaded.items
          ≡ map (status_with left_out) prefix;
      as_many : length l.loaded.items ≡ l.status-index;
    }
