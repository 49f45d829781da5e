-- The counts of a run read back, and are writable.
use Rattle.std.specs.Prelude.{◌≡◌, List, [], ◌∷◌, ◌++◌, Option, Some}
use Rattle.std.specs.Prelude.{None, option_map, refl, codes, ◌<◌, ◌^◌}
use Rattle.serde_json.specs.Data.{Members}
use Rattle.rec_events.specs.declared.reporting.CancelReason.{CancelReason}
use Rattle.rec_events.specs.declared.stats.RunStats.{RunStats}
use Rattle.rec_forms.specs.declared.stats.FirstCounts.{FirstCounts}
use Rattle.rec_forms.specs.declared.stats.LastCounts.{LastCounts}
use Rattle.rec_forms.specs.declared.stats.MiddleCounts.{MiddleCounts}
use Rattle.rec_forms.specs.GivesWellFormed.{Holds, GivesWellFormed}
use Rattle.rec_forms.specs.Members.{get_member-members_of}
use Rattle.rec_forms.specs.NumberLaws.{u64_back, u64_well_formed}
use Rattle.rec_forms.specs.Numbers.{u64_form}
use Rattle.rec_forms.specs.Reporting.{cancel_reason_value, cancel_reason_form}
use Rattle.rec_forms.specs.ReportingLaws.{cancel_reason_back, cancel_reason_writable}
use Rattle.rec_forms.specs.Shape.{Field, if_there, at_member}
use Rattle.rec_forms.specs.Stats.{run_stats_value, run_stats_form, last_counts_fields}
use Rattle.rec_forms.specs.Stats.{last_counts_form, middle_counts_fields, middle_counts_form}
use Rattle.rec_forms.specs.Stats.{first_counts_fields, first_counts_form, reason_fields}
use Rattle.rec_forms.specs.Stats.{AreLastCounts, AreMiddleCounts, AreFirstCounts, IsRunStats}
use Rattle.rec_forms.specs.WellFormedLaws.{object_then, required_then, maybe_then}
use Rattle.rec_forms.specs.WellFormedLaws.{then_holds, any_well_formed}
use Rattle.rec_forms.specs.Writable.{IsWritable, IfWritten, EachWritten}
use Rattle.rec_forms.specs.Writable.{struct_writable, natural_writable}

maybe_reason_back : (o : Option CancelReason)
    → at_member (if_there cancel_reason_form) (option_map cancel_reason_value o) ≡ Some o
maybe_reason_back None = refl
maybe_reason_back (Some r) = rw (cancel_reason_back r)

pub run_stats_back : (s : RunStats) → IsRunStats s → run_stats_form (run_stats_value s) ≡ Some s
unfolding run_stats_form last_counts_form middle_counts_form first_counts_form
run_stats_back s h =
    simp (
      get_member-members_of,
      u64_back s.exec_failed h.first_counts.exec_failed,
      u64_back s.failed h.first_counts.failed,
      u64_back s.failed_slow h.first_counts.failed_slow,
      u64_back s.failed_timed_out h.first_counts.failed_timed_out,
      u64_back s.finished_count h.first_counts.finished_count,
      u64_back s.flaky h.first_counts.flaky,
      u64_back s.initial_run_count h.middle_counts.initial_run_count,
      u64_back s.leaky h.middle_counts.leaky,
      u64_back s.leaky_failed h.middle_counts.leaky_failed,
      u64_back s.passed h.middle_counts.passed,
      u64_back s.passed_slow h.middle_counts.passed_slow,
      u64_back s.passed_timed_out h.middle_counts.passed_timed_out,
      u64_back s.setup_scripts_exec_failed h.last_counts.setup_scripts_exec_failed,
      u64_back s.setup_scripts_failed h.last_counts.setup_scripts_failed,
      u64_back s.setup_scripts_finished_count h.last_counts.setup_scripts_finished_count,
      u64_back s.setup_scripts_initial_count h.last_counts.setup_scripts_initial_count,
      u64_back s.setup_scripts_passed h.last_counts.setup_scripts_passed,
      u64_back s.setup_scripts_timed_out h.last_counts.setup_scripts_timed_out,
      u64_back s.skipped h.last_counts.skipped,
      maybe_reason_back s.cancel_reason,
    )

appended : (fs gs : List Field) → EachWritten 0 fs → EachWritten 0 gs → EachWritten 0 (fs ++ gs)
appended [] gs w v = v
appended (f ∷ fs) gs w v = (w.0, appended fs gs w.1 v)

first_counts_written : (s : RunStats) → AreFirstCounts s → EachWritten 0 (first_counts_fields s)
first_counts_written s h = (
  natural_writable s.exec_failed h.exec_failed,
  (
    natural_writable s.failed h.failed,
    (
      natural_writable s.failed_slow h.failed_slow,
      (
        natural_writable s.failed_timed_out h.failed_timed_out,
        (
          natural_writable s.finished_count h.finished_count,
          (natural_writable s.flaky h.flaky, tt),
        ),
      ),
    ),
  ),
)

middle_counts_written : (s : RunStats) → AreMiddleCounts s → EachWritten 0 (middle_counts_fields s)
middle_counts_written s h = (
  natural_writable s.initial_run_count h.initial_run_count,
  (
    natural_writable s.leaky h.leaky,
    (
      natural_writable s.leaky_failed h.leaky_failed,
      (
        natural_writable s.passed h.passed,
        (
          natural_writable s.passed_slow h.passed_slow,
          (natural_writable s.passed_timed_out h.passed_timed_out, tt),
        ),
      ),
    ),
  ),
)

last_counts_written : (s : RunStats) → AreLastCounts s → EachWritten 0 (last_counts_fields s)
last_counts_written s h = (
  natural_writable s.setup_scripts_exec_failed h.setup_scripts_exec_failed,
  (
    natural_writable s.setup_scripts_failed h.setup_scripts_failed,
    (
      natural_writable s.setup_scripts_finished_count h.setup_scripts_finished_count,
      (
        natural_writable s.setup_scripts_initial_count h.setup_scripts_initial_count,
        (
          natural_writable s.setup_scripts_passed h.setup_scripts_passed,
          (
            natural_writable s.setup_scripts_timed_out h.setup_scripts_timed_out,
            (natural_writable s.skipped h.skipped, tt),
          ),
        ),
      ),
    ),
  ),
)

if_reason_written : (o : Option CancelReason) → IfWritten 0 (option_map cancel_reason_value o)
if_reason_written None = tt
if_reason_written (Some r) = cancel_reason_writable r

reason_written : (s : RunStats) → EachWritten 0 (reason_fields s)
reason_written s = (if_reason_written s.cancel_reason, tt)

pub run_stats_writable : (s : RunStats) → IsRunStats s → IsWritable 1 (run_stats_value s)
run_stats_writable s h =
    let last : EachWritten 0 (middle_counts_fields s ++ last_counts_fields s) =
    appended (middle_counts_fields s) (last_counts_fields s)
    (middle_counts_written s h.middle_counts) (last_counts_written s h.last_counts) in
    let rest : EachWritten 0
    (first_counts_fields s ++ middle_counts_fields s ++ last_counts_fields s) =
    appended (first_counts_fields s) (middle_counts_fields s ++ last_counts_fields s)
    (first_counts_written s h.first_counts) last in
    struct_writable _ refl (appended (reason_fields s)
    (first_counts_fields s ++ middle_counts_fields s ++ last_counts_fields s) (reason_written s)
    rest)

-- ---- what is read is well-formed

abbrev FirstCountsFit : FirstCounts → Type 0
FirstCountsFit p =
    (p.exec_failed < 2 ^ 64) × (p.failed < 2 ^ 64) × (p.failed_slow < 2 ^ 64)
    × (p.failed_timed_out < 2 ^ 64) × (p.finished_count < 2 ^ 64) × (p.flaky < 2 ^ 64)

first_counts_well_formed : (ms : Members) → Holds FirstCountsFit (first_counts_form ms)
unfolding first_counts_form
first_counts_well_formed ms =
    required_then u64_form (codes "exec-failed") ms _ u64_well_formed (λ exec_failed exec_failed_is.
    required_then u64_form (codes "failed") ms _ u64_well_formed (λ failed failed_is.
    required_then u64_form (codes "failed-slow") ms _ u64_well_formed (λ failed_slow failed_slow_is.
    required_then u64_form (codes "failed-timed-out") ms _ u64_well_formed
    (λ failed_timed_out failed_timed_out_is.
    required_then u64_form (codes "finished-count") ms _ u64_well_formed
    (λ finished_count finished_count_is.
    required_then u64_form (codes "flaky") ms _ u64_well_formed (λ flaky flaky_is.
    record {
      is = (
        exec_failed_is,
        failed_is,
        failed_slow_is,
        failed_timed_out_is,
        finished_count_is,
        flaky_is,
      );
    }))))))

abbrev MiddleCountsFit : MiddleCounts → Type 0
MiddleCountsFit p =
    (p.initial_run_count < 2 ^ 64) × (p.leaky < 2 ^ 64) × (p.leaky_failed < 2 ^ 64)
    × (p.passed < 2 ^ 64) × (p.passed_slow < 2 ^ 64) × (p.passed_timed_out < 2 ^ 64)

middle_counts_well_formed : (ms : Members) → Holds MiddleCountsFit (middle_counts_form ms)
unfolding middle_counts_form
middle_counts_well_formed ms =
    required_then u64_form (codes "initial-run-count") ms _ u64_well_formed
    (λ initial_run_count initial_run_count_is.
    required_then u64_form (codes "leaky") ms _ u64_well_formed (λ leaky leaky_is.
    required_then u64_form (codes "leaky-failed") ms _ u64_well_formed
    (λ leaky_failed leaky_failed_is.
    required_then u64_form (codes "passed") ms _ u64_well_formed (λ passed passed_is.
    required_then u64_form (codes "passed-slow") ms _ u64_well_formed (λ passed_slow passed_slow_is.
    required_then u64_form (codes "passed-timed-out") ms _ u64_well_formed
    (λ passed_timed_out passed_timed_out_is.
    record {
      is = (
        initial_run_count_is,
        leaky_is,
        leaky_failed_is,
        passed_is,
        passed_slow_is,
        passed_timed_out_is,
      );
    }))))))

abbrev SetupFits : LastCounts → Type 0
SetupFits p =
    (p.setup_scripts_exec_failed < 2 ^ 64) × (p.setup_scripts_failed < 2 ^ 64)
    × (p.setup_scripts_finished_count < 2 ^ 64) × (p.setup_scripts_initial_count < 2 ^ 64)
    × (p.setup_scripts_passed < 2 ^ 64) × (p.setup_scripts_timed_out < 2 ^ 64)
    × (p.skipped < 2 ^ 64)

last_counts_well_formed : (ms : Members) → Holds SetupFits (last_counts_form ms)
unfolding last_counts_form
last_counts_well_formed ms =
    required_then u64_form (codes "setup-scripts-exec-failed") ms _ u64_well_formed
    (λ setup_scripts_exec_failed setup_scripts_exec_failed_is.
    required_then u64_form (codes "setup-scripts-failed") ms _ u64_well_formed
    (λ setup_scripts_failed setup_scripts_failed_is.
    required_then u64_form (codes "setup-scripts-finished-count") ms _ u64_well_formed
    (λ setup_scripts_finished_count setup_scripts_finished_count_is.
    required_then u64_form (codes "setup-scripts-initial-count") ms _ u64_well_formed
    (λ setup_scripts_initial_count setup_scripts_initial_count_is.
    required_then u64_form (codes "setup-scripts-passed") ms _ u64_well_formed
    (λ setup_scripts_passed setup_scripts_passed_is.
    required_then u64_form (codes "setup-scripts-timed-out") ms _ u64_well_formed
    (λ setup_scripts_timed_out setup_scripts_timed_out_is.
    required_then u64_form (codes "skipped") ms _ u64_well_formed (λ skipped skipped_is.
    record {
      is = (
        setup_scripts_exec_failed_is,
        setup_scripts_failed_is,
        setup_scripts_finished_count_is,
        setup_scripts_initial_count_is,
        setup_scripts_passed_is,
        setup_scripts_timed_out_is,
        skipped_is,
      );
    })))))))

pub run_stats_well_formed : GivesWellFormed IsRunStats run_stats_form
unfolding run_stats_form
run_stats_well_formed = record {
  each = λ d.
      object_then d _ (λ ms.
      then_holds (first_counts_form ms) _ (first_counts_well_formed ms) (λ f f_is.
      then_holds (middle_counts_form ms) _ (middle_counts_well_formed ms) (λ p p_is.
      then_holds (last_counts_form ms) _ (last_counts_well_formed ms) (λ s s_is.
      maybe_then cancel_reason_form (codes "cancel-reason") ms _
      (any_well_formed cancel_reason_form) (λ cancel_reason cancel_reason_is.
      record {
        is = record {
          first_counts = record {
            exec_failed = f_is.0;
            failed = f_is.1;
            failed_slow = f_is.2;
            failed_timed_out = f_is.3;
            finished_count = f_is.4;
            flaky = f_is.5;
          };
          middle_counts = record {
            initial_run_count = p_is.0;
            leaky = p_is.1;
            leaky_failed = p_is.2;
            passed = p_is.3;
            passed_slow = p_is.4;
            passed_timed_out = p_is.5;
          };
          last_counts = record {
            setup_scripts_exec_failed = s_is.0;
            setup_scripts_failed = s_is.1;
            setup_scripts_finished_count = s_is.2;
            setup_scripts_initial_count = s_is.3;
            setup_scripts_passed = s_is.4;
            setup_scripts_timed_out = s_is.5;
            skipped = s_is.6;
          };
        };
      })))));
}
