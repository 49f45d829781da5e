-- How the attempts of a test are described.
use Rattle.std.specs.Prelude.{◌≡◌, ◌<◌, ◌++◌, List, [], ◌∷◌, length, true, false}
use Rattle.rec_events.specs.declared.statuses.ExecuteStatus.{ExecuteStatus}
use Rattle.rec_events.specs.declared.statuses.ExecutionDescription.TheVariants.{
  Success,
  Flaky,
  Failure,
}
use Rattle.rec_events.specs.declared.statuses.ExecutionDescription.{ExecutionDescription}
use Rattle.rec_events.specs.declared.statuses.ExecutionStatuses.{ExecutionStatuses}
use Rattle.rec_events.specs.Results.{succeeded}

module _ {S O : Type 0} where
  abbrev pub Describes : ExecutionStatuses S O → ExecutionDescription S O → Type 0
  Describes s (Success single) =
      (s.statuses ≡ single.now ∷ []) × (succeeded single.now.result ≡ true)
  Describes s (Flaky last prior result) =
      (s.statuses ≡ prior.now ++ (last.now ∷ [])) × (0 < length prior.now)
      × (succeeded last.now.result ≡ true) × (result ≡ s.flaky_result)
  Describes s (Failure first last retries) =
      (s.statuses ≡ first.now ∷ retries.now)
      × ((prior : List (ExecuteStatus S O)) × (s.statuses ≡ prior ++ (last.now ∷ [])))
      × (succeeded last.now.result ≡ false)
