-- A recording writes what is written of its parts.
use Rattle.std.proofs.Common.{◌≡◌, ℕ, List, length, sym, ap}
use Rattle.std.proofs.lemmas.List.{length-map}
use Rattle.serde_json.specs.Written.{compact_text}
use Rattle.rec_container.specs.Container.{spell}
use Rattle.rec_format.specs.declared.head.SessionHead.{SessionHead}
use Rattle.rec_format.specs.declared.run.RecordedRunInfo.{RecordedRunInfo}
use Rattle.rec_format.specs.RunForms.{manifest_value}
use Rattle.rec_format.specs.Runs.{manifest_of, recorded_info}
use Rattle.rec_codec.specs.Event.{LiveEvent}
use Rattle.rec_store.specs.Bundle.{manifest_text, run_bundle, run_info, run_log, run_store}
use Rattle.rec_store.specs.Ending.{sizes_of_log, sizes_of_store}
use Rattle.rec_store.specs.Entries.{bundle_entries}
use Rattle.rec_store.specs.EventOutputs.{event_recorded}
use Rattle.rec_store.specs.RunParts.{recorded_parts, settled, settled_info, written}

module _ (number : List ℕ → ℕ) (m : ℕ) (head : SessionHead) (events : List LiveEvent) where
  -- as many events are recorded as there are
  pub same_info : run_info number m head events ≡ settled_info (recorded_parts number m head events)
  same_info =
      ap (λ n. recorded_info head (record {
        log = sizes_of_log (length (run_log number m events)) n;
        store = sizes_of_store (run_store number m head events);
      }))
      (sym (length-map events (event_recorded number m)))

  pub recorded_written : run_bundle number m head events
      ≡ written (recorded_parts number m head events)
  unfolding manifest_text
  recorded_written =
      ap (λ (info : RecordedRunInfo).
      spell (bundle_entries (compact_text (manifest_value (manifest_of info)))
      (run_log number m events) (spell (run_store number m head events))))
      same_info

  pub recorded_settled : settled (recorded_parts number m head events)
      ≡ recorded_parts number m head events
  recorded_settled =
      ap (λ (info : RecordedRunInfo). record (recorded_parts number m head events) { run = info })
      (sym same_info)
