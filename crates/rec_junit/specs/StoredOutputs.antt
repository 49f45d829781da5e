-- What a report holds of an output.
use Rattle.std.specs.Prelude.{ℕ, List, codes, Option, Some, None, Bool, true, false, Result, Ok}
use Rattle.std.specs.Str.{encode_utf8_all}
use Rattle.bstr.specs.Utf8.{lossy_chars}
use Rattle.rec_events.specs.declared.outputs.ChildExecutionOutputDescription.TheVariants.{
  Output,
  StartError,
}
use Rattle.rec_events.specs.declared.outputs.ChildOutputDescription.TheVariants.{
  Split,
  Combined,
  NotLoaded,
}
use Rattle.rec_events.specs.declared.outputs.ChildOutputDescription.{ChildOutputDescription}
use Rattle.rec_junit.specs.declared.errors.JunitError.TheVariants.{NotLoadedOutput}
use Rattle.rec_junit.specs.declared.errors.JunitError.{JunitError}
use Rattle.rec_junit.specs.declared.stored_outputs.StoredOutput.{StoredOutput}
use Rattle.rec_junit.specs.Describing.{Execution}
use Rattle.rec_junit.specs.Judging.{or_refused}

-- the text of bytes, with U+FFFD for what is no UTF-8
abbrev pub lossy_text : List ℕ → List ℕ
lossy_text bytes = encode_utf8_all (lossy_chars bytes)

abbrev pub captured_or : List ℕ → Option (List ℕ) → List ℕ
captured_or note None = note
captured_or note (Some bytes) = lossy_text bytes

abbrev pub both : List ℕ → List ℕ → StoredOutput
both out err = record { system_out = Some out; system_err = Some err }

abbrev pub stored_description : ChildOutputDescription → Option StoredOutput
stored_description (Split out err) =
    Some (both (captured_or (codes "(stdout not captured)") out)
    (captured_or (codes "(stderr not captured)") err))
stored_description (Combined output) =
    Some (both (lossy_text output) (codes "(stdout and stderr are combined)"))
stored_description NotLoaded = None

abbrev pub stored_execution : Execution → Option StoredOutput
stored_execution (Output result output errors) = stored_description output
stored_execution (StartError message) =
    Some (both (codes "(process failed to start)") (codes "(process failed to start)"))

abbrev pub no_output : StoredOutput
no_output = record { system_out = None; system_err = None }

-- the output, where it is stored
abbrev pub stored_output : Bool → Execution → Result StoredOutput JunitError
stored_output false execution = Ok no_output
stored_output true execution = or_refused NotLoadedOutput (stored_execution execution)
