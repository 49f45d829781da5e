-- A keeper in memory: what it is, and which runs it removes.
use Rattle.std.specs.Prelude.{◌≡◌, ℕ, ◌-◌, List, [], length, drop, true}
use Rattle.std.specs.Prelude.{false, Option, Some, None, Result, Ok, Err}
use Rattle.rec_container.specs.Causes.{next_count}
use Rattle.rec_format.specs.declared.run.RecordedRunInfo.{RecordedRunInfo}
use Rattle.rec_session.specs.declared.keeper.KeeperError.TheVariants.{Failed, OutOfMemory}
use Rattle.rec_session.specs.declared.keeper.KeeperError.{KeeperError}
use Rattle.rec_session.specs.declared.keeper.RecordRetentionPolicy.{RecordRetentionPolicy}
use Rattle.rec_session.specs.Keepers.{Keeping, Pruned, fails}

-- what it keeps, and the count of faults
pub record MemoryKeeping : Type 0 where
  pub kept : Keeping
  pub faults : ℕ

-- runs are removed from the front, down to this number
abbrev pub pruned_to : Option ℕ → List RecordedRunInfo → Pruned
pruned_to None runs = record { runs = runs; answer = None }
pruned_to (Some most) runs = record {
  runs = drop (length runs - most) runs;
  answer = Some (record { deleted_count = length runs - most; orphans_deleted = 0; errors = [] });
}

abbrev pub pruned_by : RecordRetentionPolicy → List RecordedRunInfo → Pruned
pruned_by policy runs = pruned_to policy.max_count runs

-- the call failed exactly where it is one that fails, and a failure was counted once
abbrev pub CountsCall : {T : Type 0} → MemoryKeeping → MemoryKeeping → Result T KeeperError → Type 0
CountsCall old new (Ok x) = (fails old.kept ≡ false) × (new.faults ≡ old.faults)
CountsCall old new (Err Failed) = (fails old.kept ≡ true) × (new.faults ≡ next_count old.faults)
CountsCall old new (Err OutOfMemory) = (fails old.kept ≡ false) × (new.faults ≡ old.faults)
