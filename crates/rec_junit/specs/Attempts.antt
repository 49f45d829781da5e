-- The attempts of a test, as a report tells them apart.
use Rattle.std.specs.Prelude.{List, [], ◌∷◌, Option, Some, None, Bool, true, false, if◌then◌else◌}
use Rattle.rec_events.specs.declared.outputs.ChildOutputDescription.{ChildOutputDescription}
use Rattle.rec_events.specs.declared.outputs.LiveSpec.{LiveSpec}
use Rattle.rec_events.specs.declared.statuses.ExecutionDescription.TheVariants as description
use Rattle.rec_events.specs.declared.statuses.ExecutionDescription.{ExecutionDescription}
use Rattle.rec_events.specs.Results.{succeeded}
use Rattle.rec_junit.specs.Reruns.{Status}

-- one that passed; a last one that passed and those before it; a first one and its retries,
-- the last of which failed
pub data Attempts : Type 0 where
  Passed : Status → Attempts
  Flaky : Status → List Status → Attempts
  Failed : Status → List Status → Attempts

-- the last of x and xs, after those before it
abbrev pub split_last : {A : Type 0} → A → List A → List A × A
split_last x [] = ([], x)
split_last x (y ∷ ys) = (x ∷ (split_last y ys).0, (split_last y ys).1)

abbrev pub passed : List Status → Status → Attempts
passed [] last = Passed last
passed (prior ∷ others) last = Flaky last (prior ∷ others)

abbrev pub attempts_by : Status → List Status → List Status × Status → Attempts
attempts_by first retries split =
    if succeeded split.1.result then passed split.0 split.1 else Failed first retries

-- none where there is no attempt
abbrev pub attempts : List Status → Option Attempts
attempts [] = None
attempts (first ∷ retries) = Some (attempts_by first retries (split_last first retries))

-- the attempt that the case speaks of
abbrev pub main_of : Attempts → Status
main_of (Passed last) = last
main_of (Flaky last prior) = last
main_of (Failed first retries) = first

abbrev pub has_failed : Attempts → Bool
has_failed (Passed last) = false
has_failed (Flaky last prior) = false
has_failed (Failed first retries) = true

-- the attempts that are described so
abbrev pub attempts_in : ExecutionDescription LiveSpec ChildOutputDescription → Attempts
attempts_in (description.Success single) = Passed single.now
attempts_in (description.Flaky last prior result) = Flaky last.now prior.now
attempts_in (description.Failure first last retries) = Failed first.now retries.now
