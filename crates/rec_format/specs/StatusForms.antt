-- The values and forms of statuses.
use Rattle.std.specs.Option.{option_map_or}
use Rattle.std.specs.Prelude.{ℕ, List, [], ◌∷◌, Option, Some, option_map, codes}
use Rattle.serde_json.specs.Data.{Data, string, Members}
use Rattle.serde_json.specs.Find.{as_object, as_str}
use Rattle.rec_forms.specs.Shape.{◌>>=◌, field, struct, required, named}
use Rattle.rec_format.specs.declared.status.CompletedRunStats.{CompletedRunStats}
use Rattle.rec_format.specs.declared.status.RecordedRunStatus.TheVariants.{
  Incomplete,
  Completed,
  Cancelled,
  StressCompleted,
  StressCancelled,
  Unknown,
}
use Rattle.rec_format.specs.declared.status.RecordedRunStatus.{RecordedRunStatus}
use Rattle.rec_format.specs.declared.status.RecordedRunStatusFormat.{RecordedRunStatusFormat}
use Rattle.rec_format.specs.declared.status.StressCompletedRunStats.{StressCompletedRunStats}
use Rattle.rec_format.specs.StatsForms.{completed_fields, completed_form, AreCompleted}
use Rattle.rec_format.specs.StatsForms.{stress_fields, stress_form, AreStress}
use Rattle.rec_format.specs.Status.{status_format, status_of}

-- a status with statistics beside it
abbrev pub completed_value : List ℕ → CompletedRunStats → Data
completed_value name s = struct (field (codes "status") (string name) ∷ completed_fields s)

abbrev pub stress_value : List ℕ → StressCompletedRunStats → Data
stress_value name s = struct (field (codes "status") (string name) ∷ stress_fields s)

-- a status alone
abbrev pub bare_value : List ℕ → Data
bare_value name = struct (field (codes "status") (string name) ∷ [])

abbrev pub status_value : RecordedRunStatus → Data
status_value Incomplete = bare_value (codes "incomplete")
status_value (Completed s) = completed_value (codes "completed") s
status_value (Cancelled s) = completed_value (codes "cancelled") s
status_value (StressCompleted s) = stress_value (codes "stress-completed") s
status_value (StressCancelled s) = stress_value (codes "stress-cancelled") s
status_value Unknown = bare_value (codes "unknown")

-- what stands beside each name
abbrev pub statuses : List (List ℕ × (Members → Option RecordedRunStatus))
statuses =
    (codes "incomplete", λ ms. Some Incomplete)
    ∷ (codes "completed", λ ms. option_map Completed (completed_form ms))
    ∷ (codes "cancelled", λ ms. option_map Cancelled (completed_form ms))
    ∷ (codes "stress-completed", λ ms. option_map StressCompleted (stress_form ms))
    ∷ (codes "stress-cancelled", λ ms. option_map StressCancelled (stress_form ms))
    ∷ []

-- any other name is a status that isn't known
abbrev pub status_with : List ℕ → Members → Option RecordedRunStatus
status_with name ms = option_map_or (λ form. form ms) (named statuses name) (Some Unknown)

unfoldable pub status_form : Data → Option RecordedRunStatus
status_form d = do
  ms ← as_object d
  name ← required as_str (codes "status") ms
  status_with name ms

abbrev pub IsStatus : RecordedRunStatus → Type 0
IsStatus Incomplete = Unit {0}
IsStatus (Completed s) = AreCompleted s
IsStatus (Cancelled s) = AreCompleted s
IsStatus (StressCompleted s) = AreStress s
IsStatus (StressCancelled s) = AreStress s
IsStatus Unknown = Unit {0}

-- the format of a status stands in JSON as the status does
abbrev pub status_format_value : RecordedRunStatusFormat → Data
status_format_value f = status_value (status_of f)

abbrev pub status_format_form : Data → Option RecordedRunStatusFormat
status_format_form d = option_map status_format (status_form d)

abbrev pub IsStatusFormat : RecordedRunStatusFormat → Type 0
IsStatusFormat f = IsStatus (status_of f)
