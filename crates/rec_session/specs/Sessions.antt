-- What a session is, as contracts see it.
use Rattle.std.specs.Prelude.{ℕ, List}
use Rattle.rec_format.specs.declared.run_ids.ShortestRunIdPrefix.{ShortestRunIdPrefix}

-- the run's id, the prefix that stood for it when it was created,
-- and the directory of the keeper's state
pub record Session : Type 0 where
  pub run_id : List ℕ
  pub prefix : ShortestRunIdPrefix
  pub state_dir : List ℕ
