-- Further attempts of a case, and what is said of one that failed.
use Rattle.std.specs.Prelude.{ℕ, List, [], ◌∷◌, Option, Some, option_map, Bool, Result, Ok}
use Rattle.rec_events.specs.declared.outputs.ChildOutputDescription.{ChildOutputDescription}
use Rattle.rec_events.specs.declared.outputs.LiveSpec.{LiveSpec}
use Rattle.rec_events.specs.declared.statuses.ExecuteStatus.{ExecuteStatus}
use Rattle.rec_junit.specs.declared.describer.ErrorText.{ErrorText}
use Rattle.rec_junit.specs.declared.errors.JunitError.TheVariants.{SuccessAsFailure}
use Rattle.rec_junit.specs.declared.errors.JunitError.{JunitError}
use Rattle.rec_junit.specs.declared.failing.FailureKind.{FailureKind}
use Rattle.rec_junit.specs.declared.report.JunitRerun.{JunitRerun}
use Rattle.rec_junit.specs.declared.stored_outputs.StoredOutput.{StoredOutput}
use Rattle.rec_junit.specs.Describing.{Execution}
use Rattle.rec_junit.specs.Failing.{failing}
use Rattle.rec_junit.specs.Judging.{◌>>=◌, or_refused}
use Rattle.rec_junit.specs.StoredOutputs.{stored_output}

-- an attempt of a test, with its outputs as they are captured
abbrev pub Status : Type 0
Status = ExecuteStatus LiveSpec ChildOutputDescription

abbrev pub message_of : Option ErrorText → Option (List ℕ)
message_of text = option_map (λ t. t.message) text

abbrev pub description_of : Option ErrorText → Option (List ℕ)
description_of text = option_map (λ t. t.description) text

abbrev pub rerun_with : Status → Option ErrorText → FailureKind → StoredOutput → JunitRerun
rerun_with status text kind output = record {
  kind = kind.kind;
  type_text = kind.type_text;
  timestamp = Some status.start_time;
  time = Some status.time_taken;
  message = message_of text;
  description = description_of text;
  system_out = output.system_out;
  system_err = output.system_err;
}

-- what a test or script is called, what is said of outputs,
-- and whether the outputs of attempts that failed are stored
module _ (unit : List ℕ) (text_of : Execution → Option ErrorText) (stores_failure : Bool) where
  -- its kind is judged before its output
  abbrev pub rerun_of : Status → Result JunitRerun JunitError
  rerun_of status = do
    kind ← or_refused SuccessAsFailure (failing unit status.result)
    output ← stored_output stores_failure status.output
    Ok (rerun_with status (text_of status.output) kind output)

  abbrev pub reruns_of : List Status → Result (List JunitRerun) JunitError
  reruns_of [] = Ok []
  reruns_of (status ∷ statuses) = do
    rerun ← rerun_of status
    reruns ← reruns_of statuses
    Ok (rerun ∷ reruns)
