-- The header of a replay.
use Rattle.std.specs.Prelude.{◌≡◌, ℕ, List, Option, Some, None}
use Rattle.rec_format.specs.declared.run.RecordedRunInfo.{RecordedRunInfo}
use Rattle.rec_format.specs.declared.run_ids.ShortestRunIdPrefix.{ShortestRunIdPrefix}
use Rattle.rec_format.specs.RunIds.{CutsShortest}
use Rattle.rec_replay.specs.declared.header.ReplayHeader.{ReplayHeader}

-- the prefix is what an index answers for the id; without an index there is none
abbrev pub AnswersPrefix : Option (List (List ℕ)) → List ℕ → Option ShortestRunIdPrefix → Type 0
AnswersPrefix None id prefix = prefix ≡ None
AnswersPrefix (Some ids) id prefix = CutsShortest ids id prefix

-- the header has the id, the answer of the index for it, and from the run's information when the
-- run started and how it ended
pub record IsHeaderOf (id : List ℕ) (run : RecordedRunInfo) (index : Option (List (List ℕ)))
    (header : ReplayHeader) : Type 0 where
  pub run_id : header.run_id ≡ id
  pub unique_prefix : AnswersPrefix index id header.unique_prefix
  pub started_at : header.started_at ≡ run.started_at
  pub status : header.status ≡ run.status
