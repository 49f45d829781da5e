-- A report is writable: its text is read as its value.
use Rattle.std.proofs.Common.{◌≤◌, ℕ, List, Option, refl, arith}
use Rattle.std.specs.List.{AllByRecursion}
use Rattle.std.specs.Prelude.{IfSome, option_map, codes}
use Rattle.serde_json.specs.Data.{string}
use Rattle.rec_events.specs.Names.{IsText}
use Rattle.rec_events.specs.Times.{Moment, Span}
use Rattle.rec_forms.specs.IdLaws.{uuid_writable}
use Rattle.rec_forms.specs.Lists.{list_value}
use Rattle.rec_forms.specs.TimeLaws.{duration_writable, stamp_writable}
use Rattle.rec_forms.specs.Times.{IsDuration, IsStamp, duration_value, stamp_value}
use Rattle.rec_forms.specs.Writable.{IfWritten, IsWritable, list_writable}
use Rattle.rec_forms.specs.Writable.{optional_writable, string_writable, struct_writable}
use Rattle.rec_forms.specs.Writable.{tagged_writable, weaker, word_writable}
use Rattle.rec_junit.specs.declared.report.JunitCase.{JunitCase}
use Rattle.rec_junit.specs.declared.report.JunitKind.TheVariants as kinds
use Rattle.rec_junit.specs.declared.report.JunitKind.{JunitKind}
use Rattle.rec_junit.specs.declared.report.JunitProperty.{JunitProperty}
use Rattle.rec_junit.specs.declared.report.JunitReport.{JunitReport}
use Rattle.rec_junit.specs.declared.report.JunitRerun.{JunitRerun}
use Rattle.rec_junit.specs.declared.report.JunitRerunKind.TheVariants as reruns
use Rattle.rec_junit.specs.declared.report.JunitRerunKind.{JunitRerunKind}
use Rattle.rec_junit.specs.declared.report.JunitStatus.TheVariants.{Success, NonSuccess, Skipped}
use Rattle.rec_junit.specs.declared.report.JunitStatus.{JunitStatus}
use Rattle.rec_junit.specs.declared.report.JunitSuite.{JunitSuite}
use Rattle.rec_junit.specs.Reports.{IsCase, IsProperty, IsReport, IsRerun, IsStatus, IsSuite}
use Rattle.rec_junit.specs.Values.{case_value, failed_value, kind_name}
use Rattle.rec_junit.specs.Values.{property_value, report_value, rerun_kind_name}
use Rattle.rec_junit.specs.Values.{rerun_value, status_value, suite_value}

-- ---- fields at a level

text_at : (n : ℕ) (o : Option (List ℕ)) → IfSome o IsText → IfWritten n (option_map string o)
text_at n o h = optional_writable string (λ s is. string_writable s is) o h

stamp_at : (n : ℕ) → 1 ≤ n → (o : Option Moment) → IfSome o IsStamp
    → IfWritten n (option_map stamp_value o)
stamp_at n deep o h =
    optional_writable stamp_value (λ s is. weaker 1 n deep (stamp_writable s is)) o h

duration_at : (n : ℕ) → 1 ≤ n → (o : Option Span) → IfSome o IsDuration
    → IfWritten n (option_map duration_value o)
duration_at n deep o h =
    optional_writable duration_value (λ d is. weaker 1 n deep (duration_writable d is)) o h

kind_writable : (n : ℕ) (k : JunitKind) → IsWritable n (string (kind_name k))
kind_writable n kinds.Failure = word_writable (codes "failure") refl
kind_writable n kinds.Error = word_writable (codes "error") refl

rerun_kind_writable : (n : ℕ) (k : JunitRerunKind) → IsWritable n (string (rerun_kind_name k))
rerun_kind_writable n reruns.Rerun = word_writable (codes "rerun") refl
rerun_kind_writable n reruns.Flaky = word_writable (codes "flaky") refl

-- ---- the parts of a report

rerun_writable : (r : JunitRerun) → IsRerun r → IsWritable 2 (rerun_value r)
unfolding rerun_value
rerun_writable r h =
    struct_writable _ refl (
      text_at 1 r.description h.description,
      (
        kind_writable 1 r.kind,
        (
          text_at 1 r.message h.message,
          (
            text_at 1 r.system_err h.system_err,
            (
              text_at 1 r.system_out h.system_out,
              (
                duration_at 1 (omega arith) r.time h.time,
                (
                  stamp_at 1 (omega arith) r.timestamp h.timestamp,
                  (string_writable r.type_text h.type_text, tt),
                ),
              ),
            ),
          ),
        ),
      ),
    )

reruns_writable : (rs : List JunitRerun) → AllByRecursion IsRerun rs
    → IsWritable 3 (list_value rerun_value rs)
reruns_writable rs h = list_writable rerun_value rerun_writable rs h

failed_writable : (k : JunitKind) (type_text : List ℕ) (message description : Option (List ℕ))
    (rs : List JunitRerun) (rerun_kind : JunitRerunKind)
    → IsText type_text → IfSome message IsText → IfSome description IsText
    → AllByRecursion IsRerun rs
    → IsWritable 4 (failed_value k type_text message description rs rerun_kind)
unfolding failed_value
failed_writable k type_text message description rs rerun_kind t m d all =
    struct_writable _ refl (
      text_at 3 description d,
      (
        kind_writable 3 k,
        (
          text_at 3 message m,
          (
            rerun_kind_writable 3 rerun_kind,
            (reruns_writable rs all, (string_writable type_text t, tt)),
          ),
        ),
      ),
    )

status_writable : (s : JunitStatus) → IsStatus s → IsWritable 5 (status_value s)
status_writable (Success rs) h =
    weaker 4 5 (omega arith)
    (tagged_writable (codes "success") (list_value rerun_value rs) refl (reruns_writable rs h))
status_writable (NonSuccess k type_text message description rs rerun_kind) h =
    tagged_writable (codes "non-success")
    (failed_value k type_text message description rs rerun_kind) refl
    (failed_writable k type_text message description rs rerun_kind h.0 h.1 h.2 h.3)
status_writable (Skipped message) h =
    weaker 1 5 (omega arith)
    (tagged_writable {n = 0} (codes "skipped") (string message) refl (string_writable message h))

case_writable : (c : JunitCase) → IsCase c → IsWritable 6 (case_value c)
unfolding case_value
case_writable c h =
    struct_writable _ refl (
      string_writable c.classname h.classname,
      (
        string_writable c.name h.name,
        (
          status_writable c.status h.status,
          (
            text_at 5 c.system_err h.system_err,
            (
              text_at 5 c.system_out h.system_out,
              (
                duration_at 5 (omega arith) c.time h.time,
                (stamp_at 5 (omega arith) c.timestamp h.timestamp, tt),
              ),
            ),
          ),
        ),
      ),
    )

property_writable : (p : JunitProperty) → IsProperty p → IsWritable 6 (property_value p)
unfolding property_value
property_writable p h =
    struct_writable _ refl (string_writable p.name h.name, (string_writable p.value h.value, tt))

suite_writable : (s : JunitSuite) → IsSuite s → IsWritable 8 (suite_value s)
unfolding suite_value
suite_writable s h =
    struct_writable _ refl (
      list_writable case_value case_writable s.cases h.cases,
      (
        string_writable s.name h.name,
        (list_writable property_value property_writable s.properties h.properties, tt),
      ),
    )

pub report_writable : (r : JunitReport) → IsReport r → IsWritable 10 (report_value r)
unfolding report_value
report_writable r h =
    struct_writable _ refl (
      string_writable r.name h.name,
      (
        weaker 0 9 (omega arith) (uuid_writable r.run_id h.run_id),
        (
          list_writable suite_value suite_writable r.suites h.suites,
          (
            weaker 1 9 (omega arith) (duration_writable r.time h.time),
            (weaker 1 9 (omega arith) (stamp_writable r.timestamp h.timestamp), tt),
          ),
        ),
      ),
    )
