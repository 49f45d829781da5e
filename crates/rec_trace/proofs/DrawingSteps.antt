-- What is drawn one after the other is drawn as one list,
-- also where it is drawn from other names of the same values.
use Rattle.std.proofs.Common.{◌≡◌, ◌∙◌, ℕ, ℤ, List, [], ◌∷◌, ◌++◌}
use Rattle.std.proofs.Common.{map, Option, Some, option_map, ap, sym}
use Rattle.std.proofs.lemmas.Grind.{flat_map-append}
use Rattle.std.proofs.lemmas.List.{append_assoc}
use Rattle.std.specs.Prelude.{OnOk, Result}
use Rattle.semver.specs.Parse.{Parts}
use Rattle.serde_json.specs.Data.{Data}
use Rattle.rec_events.specs.declared.groups.TestGroup.{TestGroup}
use Rattle.rec_events.specs.declared.instances.OwnedTestInstanceId.{OwnedTestInstanceId}
use Rattle.rec_events.specs.declared.instances.StressIndexSummary.{StressIndexSummary}
use Rattle.rec_events.specs.declared.results.FlakyResult.{FlakyResult}
use Rattle.rec_events.specs.declared.statuses.ExecuteStatus.{ExecuteStatus}
use Rattle.rec_events.specs.declared.statuses.ExecutionStatuses.{ExecutionStatuses}
use Rattle.rec_trace_events.specs.Args.{counted_flaky_result, finished_test_args}
use Rattle.rec_trace_events.specs.Args.{last_attempt_args, last_status}
use Rattle.rec_trace_events.specs.declared.counts.TestCounts.{TestCounts}
use Rattle.rec_trace_events.specs.declared.rows.Row.{Row}
use Rattle.rec_trace_events.specs.EventTexts.{event_value}
use Rattle.rec_spans.specs.declared.settings.ChromeTraceGroupBy.{ChromeTraceGroupBy}
use Rattle.rec_spans.specs.declared.spans.Span.{Span}
use Rattle.rec_spans.specs.History.{TraceState}
use Rattle.rec_trace.specs.Drawing.{Draws}
use Rattle.rec_trace.specs.Drawn.Drawn.{ArrowStarts, Results}
use Rattle.rec_trace.specs.Drawn.{Drawn, all_events, events_of}
use Rattle.rec_trace.specs.Known.{Known}
use Rattle.rec_trace.specs.Table.{closes, counter, naming, opens}

pub draws_then : (a b : List Drawn) (x y z : List (List ℕ)) → Draws a x y → Draws b y z
    → Draws (a ++ b) x z
draws_then a b x y z first second =
    second
    ∙ ap (λ events. events ++ all_events b) first
    ∙ append_assoc (map event_value x) (all_events a) (all_events b)
    ∙ ap (λ events. map event_value x ++ events) (sym (flat_map-append events_of a b))

-- both are the span that starts
pub span_is : (o : Option Span) (x y : Span) → o ≡ Some x → o ≡ Some y → x ≡ y
span_is o x y e f = cc

module _ (version : Parts) (g : ChromeTraceGroupBy) (state : TraceState) (known : Known)
    (t : ℤ) where
  -- the names of a row, under other names of the same texts
  pub names_of : {T E : Type 0} (row : Row) (p q n m : List ℕ) (x y : List (List ℕ))
      (r : Result T E)
      → p ≡ q → n ≡ m
      → OnOk r (Draws (naming version g state known t row p n) x y)
      → OnOk r (Draws (naming version g state known t row q m) x y)
  names_of row p q n m x y r e f drawn = rw (sym e, sym f) drawn

  -- a span that starts, after the names of its row
  pub start_of : (s span : Span) (p n : List ℕ) (a args : Option Data) (x y z : List (List ℕ))
      → span ≡ s → args ≡ a
      → Draws (naming version g state known t span.row p n) x y
      → Draws (opens version g state known t span args []) y z
      → Draws (naming version g state known t s.row p n ++ opens version g state known t s a []) x z
  start_of s span p n a args x y z e f first second =
      rw (sym e, sym f) (draws_then _ _ x y z first second)

  -- the same, and then how many tests and setup scripts run
  pub counted_start_of : (s span : Span) (p n : List ℕ) (a args : Option Data)
      (l tests m scripts : ℕ) (w x y z : List (List ℕ))
      → span ≡ s → args ≡ a → tests ≡ l → scripts ≡ m
      → Draws (naming version g state known t span.row p n) w x
      → Draws (opens version g state known t span args []) x y
      → Draws (counter version g state known t tests scripts ∷ []) y z
      → Draws (naming version g state known t s.row p n ++ opens version g state known t s a []
      ++ counter version g state known t l m ∷ [])
      w z
  counted_start_of s span p n a args l tests m scripts w x y z e f h i first second third =
      rw (sym h, sym i)
      (draws_then _ _ w y z (start_of s span p n a args w x y e f first second) third)

  -- spans that end, and then how many tests and setup scripts run
  pub counted_end_of : (ss spans : List Span) (a args : Option Data) (l tests m scripts : ℕ)
      (x y z : List (List ℕ))
      → spans ≡ ss → args ≡ a → tests ≡ l → scripts ≡ m
      → Draws (closes version g state known t spans args) x y
      → Draws (counter version g state known t tests scripts ∷ []) y z
      → Draws (closes version g state known t ss a ++ counter version g state known t l m ∷ []) x z
  counted_end_of ss spans a args l tests m scripts x y z e f h i first second =
      rw (sym e, sym f, sym h, sym i) (draws_then _ _ x y z first second)

  -- attempts that failed
  pub failed_of : (test : OwnedTestInstanceId) (running : ℕ) (ss spans : List Span)
      (a args : Option Data) (m scripts : ℕ) (w x y z : List (List ℕ))
      → spans ≡ ss → args ≡ a → scripts ≡ m
      → Draws (closes version g state known t spans args) w x
      → Draws (map (λ s. ArrowStarts test s.row t state.next_flow) spans) x y
      → Draws (counter version g state known t running scripts ∷ []) y z
      → Draws
      (closes version g state known t ss a ++ map (λ s. ArrowStarts test s.row t state.next_flow) ss
      ++ counter version g state known t running m ∷ []) w z
  failed_of test running ss spans a args m scripts w x y z e f h first second third =
      rw (sym e, sym f, sym h) (draws_then _ _ w y z (draws_then _ _ w x y first second) third)

  -- tests that ended
  pub finished_of : (running : ℕ) (ss spans : List Span) (a args : Option Data) (m scripts : ℕ)
      (n counts : TestCounts) (w x y z : List (List ℕ))
      → spans ≡ ss → args ≡ a → scripts ≡ m → counts ≡ n
      → Draws (closes version g state known t spans args) w x
      → Draws (counter version g state known t running scripts ∷ []) x y
      → Draws (Results counts t ∷ []) y z
      → Draws (closes version g state known t ss a ++ counter version g state known t running m
      ∷ Results n t ∷ [])
      w z
  finished_of running ss spans a args m scripts n counts w x y z e f h i first second third =
      rw (sym e, sym f, sym h, sym i)
      (draws_then _ (counter version g state known t running scripts ∷ Results counts t ∷ [])
      w x z first (draws_then (counter version g state known t running scripts ∷ [])
      (Results counts t ∷ []) x y z second third))

-- ---- the args of the end of a test, of what was found of it

module _ {S O : Type 0} where
  pub finished_args : (test : OwnedTestInstanceId) (i : Option StressIndexSummary)
      (group given : TestGroup) (s : ExecutionStatuses S O) (last : ExecuteStatus S O)
      (flaky : Option FlakyResult)
      → last_status s ≡ Some last → flaky ≡ counted_flaky_result s last → given ≡ group
      → finished_test_args test i group s ≡ Some (last_attempt_args test i given last flaky)
  unfolding finished_test_args
  finished_args test i group given s last flaky is counted same =
      ap (option_map (λ l. last_attempt_args test i group l (counted_flaky_result s l))) is
      ∙ ap (λ f. Some (last_attempt_args test i group last f)) (sym counted)
      ∙ ap (λ g. Some (last_attempt_args test i g last flaky)) (sym same)
