-- What is said of an output whose attempt failed.
use Rattle.std.specs.List.{join_by}
use Rattle.std.specs.Prelude.{ℕ, List, [], ◌∷◌, codes, Option, Some, None}
use Rattle.rec_events.specs.declared.outputs.ChildExecutionOutputDescription.TheVariants.{
  Output,
  StartError,
}
use Rattle.rec_events.specs.declared.outputs.ChildExecutionOutputDescription.{
  ChildExecutionOutputDescription,
}
use Rattle.rec_events.specs.declared.outputs.ChildOutputDescription.{ChildOutputDescription}
use Rattle.rec_events.specs.declared.outputs.LiveSpec.{LiveSpec}
use Rattle.rec_junit.specs.declared.describer.ErrorText.{ErrorText}

-- what came of starting a process, with its outputs as they are captured
abbrev pub Execution : Type 0
Execution = ChildExecutionOutputDescription LiveSpec ChildOutputDescription

-- the first error, and all of them, each on its lines
abbrev pub errors_text : List (List ℕ) → Option ErrorText
errors_text [] = None
errors_text (e ∷ es) =
    Some (record { message = e; description = join_by (λ text. text) (codes "\n") (e ∷ es) })

abbrev pub captured_text : Option (List (List ℕ)) → Option ErrorText
captured_text None = None
captured_text (Some errors) = errors_text errors

abbrev pub plain_text : Execution → Option ErrorText
plain_text (Output result output errors) = captured_text errors
plain_text (StartError message) = Some (record { message = message; description = message })
