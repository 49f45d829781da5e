-- What an event adds to a report.
use Rattle.std.specs.Option.{option_map_or}
use Rattle.std.specs.Prelude.{ℕ, List, [], ◌∷◌, ◌++◌, codes, map, Option}
use Rattle.std.specs.Prelude.{Some, None, if◌then◌else◌, Result, Ok}
use Rattle.rec_events.specs.declared.instances.OwnedTestInstanceId.{OwnedTestInstanceId}
use Rattle.rec_events.specs.declared.live_events.TestEventKind.TheVariants.{
  SetupScriptFinished,
  TestFinished,
  TestSkipped,
}
use Rattle.rec_events.specs.declared.live_events.TestEventKind.{TestEventKind}
use Rattle.rec_events.specs.declared.live_stress.StressIndex.{StressIndex}
use Rattle.rec_events.specs.declared.outputs.ChildOutputDescription.{ChildOutputDescription}
use Rattle.rec_events.specs.declared.outputs.LiveSpec.{LiveSpec}
use Rattle.rec_events.specs.declared.recording.NextestRunMode.{NextestRunMode}
use Rattle.rec_events.specs.declared.reporting.JunitFlakyFailStatus.{JunitFlakyFailStatus}
use Rattle.rec_events.specs.declared.skipping.MismatchReason.{MismatchReason}
use Rattle.rec_events.specs.declared.skipping.ReportSkipPolicy.{ReportSkipPolicy}
use Rattle.rec_events.specs.declared.statuses.ExecutionStatuses.{ExecutionStatuses}
use Rattle.rec_events.specs.Skipping.{reports}
use Rattle.rec_junit.specs.Attempts.{attempts}
use Rattle.rec_junit.specs.Cases.{ScriptStatus, test_case, script_case, skipped_case}
use Rattle.rec_junit.specs.declared.describer.ErrorText.{ErrorText}
use Rattle.rec_junit.specs.declared.errors.JunitError.{JunitError}
use Rattle.rec_junit.specs.declared.report.JunitCase.{JunitCase}
use Rattle.rec_junit.specs.declared.report.JunitProperty.{JunitProperty}
use Rattle.rec_junit.specs.declared.reruns.Storing.{Storing}
use Rattle.rec_junit.specs.declared.suite_keys.SuiteKey.{SuiteKey}
use Rattle.rec_junit.specs.declared.suite_keys.SuiteSubject.TheVariants.{Script, Binary}
use Rattle.rec_junit.specs.declared.suites.Addition.{Addition}
use Rattle.rec_junit.specs.Describing.{Execution}
use Rattle.rec_junit.specs.Failing.{test_unit}
use Rattle.rec_junit.specs.Judging.{◌>>=◌}
use Rattle.rec_junit.specs.Shell.{shell_words}
use Rattle.rec_junit.specs.Suites.{key_of, suite_name}

-- ---- properties of a script's suite

abbrev pub property : List ℕ → List ℕ → JunitProperty
property name value = record { name = name; value = value }

-- the variables that a script set, in the order of their names
abbrev pub variables : Option (List (List ℕ × List ℕ)) → List JunitProperty
variables None = []
variables (Some pairs) = map (λ p. property (codes "output-env:" ++ p.0) p.1) pairs

abbrev pub script_properties : List ℕ → List (List ℕ) → Option (List (List ℕ × List ℕ))
    → List JunitProperty
script_properties program args env =
    property (codes "command") program ∷ property (codes "args") (shell_words (λ w. w) args)
    ∷ variables env

-- ---- additions

-- a case in the suite of a test's binary
abbrev pub test_addition : Option StressIndex → OwnedTestInstanceId → JunitCase → Addition
test_addition stress test case =
    record { key = key_of (Binary test.binary_id) stress; case = case; properties = [] }

-- what a finished test adds, if it was attempted
abbrev pub finished_addition :
    List ℕ → (Execution → Option ErrorText) → Storing → Option StressIndex → OwnedTestInstanceId
    → JunitFlakyFailStatus → ExecutionStatuses LiveSpec ChildOutputDescription
    → Result (Option Addition) JunitError
finished_addition unit text_of storing stress test fail_status statuses =
    option_map_or
    (λ tried. test_case unit text_of storing test statuses.flaky_result fail_status tried
    >>= (λ case. Ok (Some (test_addition stress test case))))
    (attempts statuses.statuses)
    (Ok None)

-- what a finished script adds, to the suite of this key
abbrev pub script_addition : (Execution → Option ErrorText) → Storing → SuiteKey → List ℕ → List ℕ
    → List (List ℕ) → ScriptStatus → Result (Option Addition) JunitError
script_addition text_of storing key script program args ran =
    script_case text_of storing script (suite_name key) ran
    >>= (λ case. Ok (Some
    (record { key = key; case = case; properties = script_properties program args ran.env_map })))

abbrev pub skipped_addition : Option StressIndex → OwnedTestInstanceId → MismatchReason
    → ReportSkipPolicy → Option Addition
skipped_addition stress test reason policy =
    if reports policy reason then Some (test_addition stress test (skipped_case test reason))
    else None

module _ (mode : NextestRunMode) (text_of : Execution → Option ErrorText) where
  -- what an event adds, or why it is refused
  abbrev pub addition_of : TestEventKind → Result (Option Addition) JunitError
  addition_of (SetupScriptFinished stress index total script program args no_capture store_success
      store_failure ran) =
      script_addition text_of (record { success = store_success; failure = store_failure })
      (key_of (Script script) stress) script program args ran
  addition_of (TestFinished stress test success failure store_success store_failure fail_status
      statuses stats running) =
      finished_addition (test_unit mode) text_of
      (record { success = store_success; failure = store_failure }) stress test fail_status statuses
  addition_of (TestSkipped stress test reason policy) =
      Ok (skipped_addition stress test reason policy)
  addition_of kind = Ok None
