-- The JSON of a report.
use Rattle.std.specs.Prelude.{ℕ, List, [], ◌∷◌, ◌++◌, codes, Option}
use Rattle.serde_json.specs.Data.{Data, string}
use Rattle.rec_events.specs.Times.{Moment, Span}
use Rattle.rec_forms.specs.Ids.{uuid_value}
use Rattle.rec_forms.specs.Lists.{list_value}
use Rattle.rec_forms.specs.Shape.{Field, field, optional, struct, tagged}
use Rattle.rec_forms.specs.Times.{stamp_value, duration_value}
use Rattle.rec_junit.specs.declared.report.JunitCase.{JunitCase}
use Rattle.rec_junit.specs.declared.report.JunitKind.TheVariants as kind
use Rattle.rec_junit.specs.declared.report.JunitKind.{JunitKind}
use Rattle.rec_junit.specs.declared.report.JunitProperty.{JunitProperty}
use Rattle.rec_junit.specs.declared.report.JunitReport.{JunitReport}
use Rattle.rec_junit.specs.declared.report.JunitRerun.{JunitRerun}
use Rattle.rec_junit.specs.declared.report.JunitRerunKind.TheVariants as rerun
use Rattle.rec_junit.specs.declared.report.JunitRerunKind.{JunitRerunKind}
use Rattle.rec_junit.specs.declared.report.JunitStatus.TheVariants.{Success, NonSuccess, Skipped}
use Rattle.rec_junit.specs.declared.report.JunitStatus.{JunitStatus}
use Rattle.rec_junit.specs.declared.report.JunitSuite.{JunitSuite}

abbrev pub kind_name : JunitKind → List ℕ
kind_name kind.Failure = codes "failure"
kind_name kind.Error = codes "error"

abbrev pub rerun_kind_name : JunitRerunKind → List ℕ
rerun_kind_name rerun.Rerun = codes "rerun"
rerun_kind_name rerun.Flaky = codes "flaky"

-- what failed, and how
abbrev pub failure_fields : JunitKind → Option (List ℕ) → Option (List ℕ) → List Field
failure_fields kind message description =
    optional (codes "description") string description
    ∷ field (codes "kind") (string (kind_name kind)) ∷ optional (codes "message") string message
    ∷ []

-- when something ran, and what it wrote
abbrev pub run_fields : Option Moment → Option Span → Option (List ℕ) → Option (List ℕ) → List Field
run_fields timestamp time out err =
    optional (codes "system-err") string err ∷ optional (codes "system-out") string out
    ∷ optional (codes "time") duration_value time
    ∷ optional (codes "timestamp") stamp_value timestamp ∷ []

unfoldable pub rerun_value : JunitRerun → Data
rerun_value r =
    struct (failure_fields r.kind r.message r.description ++ run_fields r.timestamp r.time
    r.system_out r.system_err ++ field (codes "type-text") (string r.type_text) ∷ [])

unfoldable pub failed_value : JunitKind → List ℕ → Option (List ℕ) → Option (List ℕ)
    → List JunitRerun → JunitRerunKind → Data
failed_value kind type_text message description reruns rerun_kind =
    struct
    (failure_fields kind message description
    ++ field (codes "rerun-kind") (string (rerun_kind_name rerun_kind))
    ∷ field (codes "reruns") (list_value rerun_value reruns)
    ∷ field (codes "type-text") (string type_text) ∷ [])

abbrev pub status_value : JunitStatus → Data
status_value (Success reruns) = tagged (codes "success") (list_value rerun_value reruns)
status_value (NonSuccess kind type_text message description reruns rerun_kind) =
    tagged (codes "non-success") (failed_value kind type_text message description reruns rerun_kind)
status_value (Skipped message) = tagged (codes "skipped") (string message)

unfoldable pub case_value : JunitCase → Data
case_value c =
    struct
    (field (codes "classname") (string c.classname) ∷ field (codes "name") (string c.name)
    ∷ field (codes "status") (status_value c.status)
    ∷ run_fields c.timestamp c.time c.system_out c.system_err)

unfoldable pub property_value : JunitProperty → Data
property_value p =
    struct (field (codes "name") (string p.name) ∷ field (codes "value") (string p.value) ∷ [])

unfoldable pub suite_value : JunitSuite → Data
suite_value s =
    struct
    (field (codes "cases") (list_value case_value s.cases) ∷ field (codes "name") (string s.name)
    ∷ field (codes "properties") (list_value property_value s.properties) ∷ [])

unfoldable pub report_value : JunitReport → Data
report_value r =
    struct
    (field (codes "name") (string r.name) ∷ field (codes "run-id") (uuid_value r.run_id)
    ∷ field (codes "suites") (list_value suite_value r.suites)
    ∷ field (codes "time") (duration_value r.time)
    ∷ field (codes "timestamp") (stamp_value r.timestamp) ∷ [])
