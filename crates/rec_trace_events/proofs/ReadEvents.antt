-- What is read of each trace event.
use Rattle.std.proofs.Common.{◌≡◌, ℕ, ℤ, pos, negsuc, Bool, List, [], ◌∷◌}
use Rattle.std.proofs.Common.{map, Option, None, Some, refl, ap, ◌∙◌}
use Rattle.std.specs.Prelude.{codes, option_and_then, option_map}
use Rattle.serde_json.specs.Data.{Data, string}
use Rattle.serde_json.specs.Find.{as_str}
use Rattle.rec_json.specs.Fields.{members_of}
use Rattle.rec_events.specs.declared.groups.TestGroup.{TestGroup}
use Rattle.rec_events.specs.declared.instances.OwnedTestInstanceId.{OwnedTestInstanceId}
use Rattle.rec_events.specs.declared.instances.RetryData.{RetryData}
use Rattle.rec_events.specs.declared.instances.StressIndexSummary.{StressIndexSummary}
use Rattle.rec_events.specs.declared.reporting.CancelReason.{CancelReason}
use Rattle.rec_events.specs.declared.statuses.ExecuteStatus.{ExecuteStatus}
use Rattle.rec_events.specs.Times.{Span}
use Rattle.rec_forms.specs.Members.{get_member-members_of, sought}
use Rattle.rec_forms.specs.Shape.{Field, struct}
use Rattle.rec_trace_events.specs.Args.{failed_attempt_args, retry_begin_args}
use Rattle.rec_trace_events.specs.Args.{slow_test_args, test_begin_args}
use Rattle.rec_trace_events.specs.declared.counts.RunningCounts.{RunningCounts}
use Rattle.rec_trace_events.specs.declared.counts.TestCounts.{TestCounts}
use Rattle.rec_trace_events.specs.declared.instants.RunMark.TheVariants.{
  Cancelled,
  Continued,
  Paused,
}
use Rattle.rec_trace_events.specs.declared.instants.RunMark.{RunMark}
use Rattle.rec_trace_events.specs.declared.rows.Category.{Category}
use Rattle.rec_trace_events.specs.declared.rows.Row.{Row}
use Rattle.rec_trace_events.specs.ReadEvents.{args_at, arrow_read, count_in_args}
use Rattle.rec_trace_events.specs.ReadEvents.{counter_read, event_read, metadata_read}
use Rattle.rec_trace_events.specs.ReadEvents.{plain_read, test_in, text_at, text_in_args}
use Rattle.rec_trace_events.specs.TraceEvents.{arrow_finish, arrow_start, begin_event}
use Rattle.rec_trace_events.specs.TraceEvents.{category_text, concurrency_event, end_event}
use Rattle.rec_trace_events.specs.TraceEvents.{mark_args, mark_event, mark_name}
use Rattle.rec_trace_events.specs.TraceEvents.{process_metadata, process_row, results_event}
use Rattle.rec_trace_events.specs.TraceEvents.{run_row, slow_event, thread_metadata}

-- ---- slices

pub begin-read : (name : List ℕ) (category : Category) (row : Row) (at : ℤ) (args : Option Data)
    → event_read (begin_event name category row at args)
    ≡ Some (plain_read (codes "B") name (category_text category) row at)
unfolding begin_event members_of
begin-read name category row (pos n) None = refl
begin-read name category row (negsuc n) None = refl
begin-read name category row (pos n) (Some d) = refl
begin-read name category row (negsuc n) (Some d) = refl

pub end-read : (name : List ℕ) (category : Category) (row : Row) (at : ℤ) (args : Option Data)
    → event_read (end_event name category row at args)
    ≡ Some (plain_read (codes "E") name (category_text category) row at)
unfolding end_event members_of
end-read name category row (pos n) None = refl
end-read name category row (negsuc n) None = refl
end-read name category row (pos n) (Some d) = refl
end-read name category row (negsuc n) (Some d) = refl

-- with the args that they were given
pub begin-args : (name : List ℕ) (category : Category) (row : Row) (at : ℤ) (args : Option Data)
    → args_at (begin_event name category row at args) ≡ args
unfolding begin_event members_of
begin-args name category row at None = refl
begin-args name category row at (Some d) = refl

pub end-args : (name : List ℕ) (category : Category) (row : Row) (at : ℤ) (args : Option Data)
    → args_at (end_event name category row at args) ≡ args
unfolding end_event members_of
end-args name category row at None = refl
end-args name category row at (Some d) = refl

-- ---- metadata

pub process-read : (pid : ℕ) (name : List ℕ) → map event_read (process_metadata pid name)
    ≡ Some (metadata_read (codes "process_name") (process_row pid))
    ∷ Some (metadata_read (codes "process_sort_index") (process_row pid))
    ∷ []
unfolding members_of
process-read pid name = refl

pub row-read : (row : Row) (name : List ℕ) → map event_read (thread_metadata row name)
    ≡ Some (metadata_read (codes "thread_name") row)
    ∷ Some (metadata_read (codes "thread_sort_index") row) ∷ []
unfolding members_of
row-read row name = refl

-- the names, and the places among others
pub process-named : (pid : ℕ) (name : List ℕ)
    → map (text_in_args (codes "name")) (process_metadata pid name) ≡ Some name ∷ None ∷ []
unfolding members_of
process-named pid name = refl

pub process-placed : (pid : ℕ) (name : List ℕ)
    → map (count_in_args (codes "sort_index")) (process_metadata pid name) ≡ None ∷ Some pid ∷ []
unfolding members_of
process-placed pid name = refl

pub row-named : (row : Row) (name : List ℕ)
    → map (text_in_args (codes "name")) (thread_metadata row name) ≡ Some name ∷ None ∷ []
unfolding members_of
row-named row name = refl

pub row-placed : (row : Row) (name : List ℕ)
    → map (count_in_args (codes "sort_index")) (thread_metadata row name) ≡ None ∷ Some row.tid ∷ []
unfolding members_of
row-placed row name = refl

-- ---- counters

pub running-read : (counts : RunningCounts) (at : ℤ)
    → event_read (concurrency_event counts at) ≡ Some (counter_read (codes "concurrency") at)
unfolding concurrency_event members_of
running-read counts (pos n) = refl
running-read counts (negsuc n) = refl

pub results-read : (counts : TestCounts) (at : ℤ)
    → event_read (results_event counts at) ≡ Some (counter_read (codes "test results") at)
unfolding results_event members_of
results-read counts (pos n) = refl
results-read counts (negsuc n) = refl

-- what they count
pub running-counted : (counts : RunningCounts) (at : ℤ)
    → (count_in_args (codes "running_tests") (concurrency_event counts at) ≡ Some counts.tests)
    × (count_in_args (codes "running_scripts") (concurrency_event counts at) ≡ Some counts.scripts)
unfolding concurrency_event members_of
running-counted counts at = (refl, refl)

pub results-counted : (counts : TestCounts) (at : ℤ)
    → (count_in_args (codes "passed") (results_event counts at) ≡ Some counts.passed)
    × (count_in_args (codes "flaky") (results_event counts at) ≡ Some counts.flaky)
    × (count_in_args (codes "failed") (results_event counts at) ≡ Some counts.failed)
unfolding results_event members_of
results-counted counts at = (refl, refl, refl)

-- ---- instants

pub mark-read : (mark : RunMark) (counts : RunningCounts) (at : ℤ)
    → event_read (mark_event mark counts at)
    ≡ Some (plain_read (codes "i") (mark_name mark) (codes "run") run_row at)
unfolding mark_event members_of
mark-read mark counts (pos n) = refl
mark-read mark counts (negsuc n) = refl

pub mark-counted : (mark : RunMark) (counts : RunningCounts) (at : ℤ)
    → (count_in_args (codes "running") (mark_event mark counts at) ≡ Some counts.tests)
    × (count_in_args (codes "setup_scripts_running") (mark_event mark counts at)
    ≡ Some counts.scripts)
unfolding mark_event mark_args members_of
mark-counted (Cancelled reason) counts at = (refl, refl)
mark-counted Paused counts at = (refl, refl)
mark-counted Continued counts at = (refl, refl)

-- how each mark is called
pub cancelled-named : (reason : CancelReason) → mark_name (Cancelled reason) ≡ codes "cancel"
unfolding mark_name
cancelled-named reason = refl

pub paused-named : mark_name Paused ≡ codes "paused"
unfolding mark_name
paused-named = refl

pub continued-named : mark_name Continued ≡ codes "continued"
unfolding mark_name
continued-named = refl

pub slow-read : (category : Category) (row : Row) (at : ℤ) (args : Data)
    → event_read (slow_event category row at args)
    ≡ Some (plain_read (codes "i") (codes "slow") (category_text category) row at)
unfolding slow_event members_of
slow-read category row (pos n) args = refl
slow-read category row (negsuc n) args = refl

pub slow-args : (category : Category) (row : Row) (at : ℤ) (args : Data)
    → args_at (slow_event category row at args) ≡ Some args
unfolding slow_event members_of
slow-args category row at args = refl

-- ---- arrows

pub arrow_start-read : (row : Row) (at : ℤ) (number : ℕ)
    → event_read (arrow_start row at number) ≡ Some (arrow_read (codes "s") row at number)
unfolding arrow_start members_of
arrow_start-read row (pos n) number = refl
arrow_start-read row (negsuc n) number = refl

pub arrow_finish-read : (row : Row) (at : ℤ) (number : ℕ)
    → event_read (arrow_finish row at number) ≡ Some (arrow_read (codes "f") row at number)
unfolding arrow_finish members_of
arrow_finish-read row (pos n) number = refl
arrow_finish-read row (negsuc n) number = refl

-- ---- the tests that args name

-- what fields name, whichever others of them are there
test-in : (fs : List Field) (binary name : List ℕ)
    → sought None (codes "binary_id") fs ≡ Some (string binary)
    → sought None (codes "test_name") fs ≡ Some (string name)
    → test_in (struct fs) ≡ Some (binary, name)
test-in fs binary name binary_is name_is =
    ap
    (λ o. option_and_then (λ b. option_map (λ n. (b, n)) (text_at (codes "test_name") (struct fs)))
    (option_and_then as_str o))
    (get_member-members_of (codes "binary_id") fs ∙ binary_is)
    ∙ ap (λ o. option_map (λ n. (binary, n)) (option_and_then as_str o))
    (get_member-members_of (codes "test_name") fs ∙ name_is)

pub begin-names : (test : OwnedTestInstanceId) (command_line : List (List ℕ))
    → test_in (test_begin_args test command_line) ≡ Some (test.binary_id, test.test_name)
unfolding test_begin_args
begin-names test command_line = test-in _ test.binary_id test.test_name refl refl

pub retry-names : (test : OwnedTestInstanceId) (retry_data : RetryData)
    (command_line : List (List ℕ))
    → test_in (retry_begin_args test retry_data command_line)
    ≡ Some (test.binary_id, test.test_name)
unfolding retry_begin_args
retry-names test retry_data command_line = test-in _ test.binary_id test.test_name refl refl

pub slow-names : (test : OwnedTestInstanceId) (index : Option StressIndexSummary)
    (retry_data : RetryData) (elapsed : Span) (will_terminate : Bool)
    → test_in (slow_test_args test index retry_data elapsed will_terminate)
    ≡ Some (test.binary_id, test.test_name)
unfolding slow_test_args
slow-names test index retry_data elapsed will_terminate =
    test-in _ test.binary_id test.test_name refl refl

pub failed-names : {S O : Type 0} (test : OwnedTestInstanceId) (index : Option StressIndexSummary)
    (group : TestGroup) (status : ExecuteStatus S O) (delay : Span)
    → test_in (failed_attempt_args test index group status delay)
    ≡ Some (test.binary_id, test.test_name)
unfolding failed_attempt_args
failed-names test index group status delay = test-in _ test.binary_id test.test_name refl refl
