-- What is printed of a run for those who run its tests again.
use Rattle.std.specs.List.{flat_map}
use Rattle.std.specs.Prelude.{◌≡◌, ◌⊎◌, ℕ, ◌&&◌, ◌||◌, true, false, List}
use Rattle.std.specs.Prelude.{[], ◌∷◌, ◌++◌, Option, Result, Ok, Err, codes}
use Rattle.serde_json.specs.Written.{compact_text}
use Rattle.rec_container.specs.Container.{Entry}
use Rattle.rec_container.specs.Reading.{◌>>=◌}
use Rattle.rec_events.specs.declared.instances.OwnedTestInstanceId.{OwnedTestInstanceId}
use Rattle.rec_events.specs.declared.recording.TestListSummary.{TestListSummary}
use Rattle.rec_events.specs.Tests.{is_listed}
use Rattle.rec_format.specs.declared.manifest.PortableManifest.{PortableManifest}
use Rattle.rec_format.specs.declared.rerun.RerunInfo.{RerunInfo}
use Rattle.rec_format.specs.declared.scope.RecordedBuildScope.{RecordedBuildScope}
use Rattle.rec_format.specs.RerunForms.{rerun_info_value}
use Rattle.rec_format.specs.ScopeForms.{recorded_scope_form}
use Rattle.rec_codec.specs.Event.{RecordedEvent}
use Rattle.rec_codec.specs.Lines.{NumberedLine}
use Rattle.rec_store.specs.Entries.{build_scope_path}
use Rattle.rec_store.specs.Parts.{metadata_part, rerun_info_part}
use Rattle.rec_portable.specs.Judging.{judged}
use Rattle.rec_portable.specs.OuterEntries.{log_part}
use Rattle.rec_rerun.specs.declared.plan.RerunPlan.{RerunPlan}
use Rattle.rec_rerun.specs.Plans.{gone_of, is_in, run_of, skip_of}
use Rattle.rec_rerun.specs.Selection.{IsSelection, is_recorded, root_of}
use Rattle.rec_rerun.specs.Suites.{has_outstanding, has_passing}
use Rattle.rec_errors.specs.declared.reading_error.ReadingError.TheVariants.{OutOfMemory}
use Rattle.rec_errors.specs.declared.reading_error.ReadingError.{ReadingError}
use Rattle.rec_reading.specs.declared.rerun.SelectedTests.{SelectedTests}
use Rattle.rec_reading.specs.declared.rerun.Tested.{Tested}
use Rattle.rec_reading.specs.LogEvents.{events_of}
use Rattle.rec_reading.specs.LogLines.{log_lines}
use Rattle.rec_reading.specs.RunParts.{of_bundle, of_store, tests_part}
use Rattle.rec_reading.specs.Stores.{store_part}

-- ---- what a rerun is selected by

-- the id of a run, what its store says of its tests, and its events
pub record RerunParts : Type 0 where
  pub run_id : List ℕ
  pub tested : Tested
  pub events : List RecordedEvent

abbrev pub build_scope_part : List Entry → ℕ → Result RecordedBuildScope ReadingError
build_scope_part store limit =
    of_store (metadata_part recorded_scope_form build_scope_path store limit)

abbrev pub parent_part : List Entry → ℕ → Result (Option RerunInfo) ReadingError
parent_part store limit = of_store (rerun_info_part store limit)

-- the build scope comes first, then the rerun info and the test list
abbrev pub tested_part : List Entry → ℕ → Result Tested ReadingError
tested_part store limit = do
  scope ← build_scope_part store limit
  parent ← parent_part store limit
  tests ← tests_part store limit
  Ok (record { build_scope = scope; parent = parent; tests = tests })

-- before them come the manifest, the log and the store, and after them the lines of the log
abbrev pub parts_after : ℕ → List Entry → PortableManifest → Result RerunParts ReadingError
parts_after limit es manifest = do
  log ← of_bundle (log_part limit es)
  store ← of_bundle (store_part es)
  tested ← tested_part store limit
  events ← events_of (log_lines log)
  Ok (record { run_id = manifest.run.run_id; tested = tested; events = events })

abbrev pub rerun_parts_of : ℕ → List Entry → Result RerunParts ReadingError
rerun_parts_of limit es = of_bundle (judged limit es) >>= parts_after limit es

-- ---- what is selected, and planned by it

-- which tests of a run are to run again, and which have passed:
-- each recorded test is in one of the two sets
pub record IsRerunOf (run : RerunParts) (info : RerunInfo) : Type 0 where
  pub parent_run : info.parent_run_id ≡ run.run_id
  pub root : info.root_info ≡ root_of run.run_id run.tested.build_scope run.tested.parent
  pub selected : IsSelection run.events run.tested.parent info.test_suites
  pub apart : (t : OwnedTestInstanceId)
      → (has_passing info.test_suites t && has_outstanding info.test_suites t) ≡ false
  pub recorded : (t : OwnedTestInstanceId)
      → (has_passing info.test_suites t || has_outstanding info.test_suites t)
      ≡ is_recorded run.events run.tested.parent t

-- what that means for a list: each of its tests runs or is skipped,
-- and each test that is to run does, or is gone
pub record IsPlanOf (info : RerunInfo) (list : TestListSummary) (plan : RerunPlan) : Type 0 where
  pub run : plan.run ≡ run_of info list
  pub skip : plan.skip ≡ skip_of info list
  pub gone : plan.gone ≡ gone_of info list
  pub parted : (t : OwnedTestInstanceId)
      → (is_in plan.run t || is_in plan.skip t) ≡ is_listed list t
  pub apart : (t : OwnedTestInstanceId) → (is_in plan.run t && is_in plan.skip t) ≡ false
  pub kept : (t : OwnedTestInstanceId)
      → has_outstanding info.test_suites t ≡ true → (is_in plan.run t || is_in plan.gone t) ≡ true

-- what is to run again is selected by these lines; or one of them gives no event, or memory ran out
abbrev pub SelectsBy : List ℕ → Tested → List NumberedLine → Result RerunInfo ReadingError → Type 0
SelectsBy run_id tested lines (Ok info) =
    (events : List RecordedEvent) × (events_of lines ≡ Ok events)
    × IsRerunOf (record { run_id = run_id; tested = tested; events = events }) info
SelectsBy run_id tested lines (Err e) = (e ≡ OutOfMemory) ⊎ (events_of lines ≡ Err e)

-- the same by the parts of a bundle, beside the tests of the run
abbrev pub Selects : Result RerunParts ReadingError → Result SelectedTests ReadingError → Type 0
Selects expected (Ok s) =
    (run : RerunParts) × (expected ≡ Ok run) × IsRerunOf run s.info × (s.tests ≡ run.tested.tests)
Selects expected (Err e) = (e ≡ OutOfMemory) ⊎ (expected ≡ Err e)

-- ---- the text

-- a label, the binary's id, a space and the test's name
abbrev pub test_line : List ℕ → OwnedTestInstanceId → List ℕ
test_line label t = label ++ (t.binary_id ++ (32 ∷ (t.test_name ++ 10 ∷ [])))

abbrev pub test_lines : List ℕ → List OwnedTestInstanceId → List ℕ
test_lines label tests = flat_map (test_line label) tests

-- a selection and LF
unfoldable pub selection_line : RerunInfo → List ℕ
selection_line info = compact_text (rerun_info_value info) ++ 10 ∷ []

-- the selection, and then the tests of the plan
abbrev pub plan_lines : RerunInfo → RerunPlan → List ℕ
plan_lines info plan =
    selection_line info ++ (test_lines (codes "run ") plan.run
    ++ (test_lines (codes "skip ") plan.skip ++ test_lines (codes "gone ") plan.gone))

abbrev pub PrintsPlan : RerunInfo → TestListSummary → List ℕ → Type 0
PrintsPlan info list text =
    (plan : RerunPlan) × IsPlanOf info list plan × (text ≡ plan_lines info plan)

abbrev pub PrintsSelection : RerunParts → List ℕ → Type 0
PrintsSelection run text =
    (info : RerunInfo) × IsRerunOf run info × PrintsPlan info run.tested.tests text

-- what is printed of the entries of a bundle, or why nothing is
abbrev pub PrintsRerun : ℕ → List Entry → Result (List ℕ) ReadingError → Type 0
PrintsRerun limit es (Ok text) =
    (run : RerunParts) × (rerun_parts_of limit es ≡ Ok run) × PrintsSelection run text
PrintsRerun limit es (Err e) = rerun_parts_of limit es ≡ Err e
