-- What is known changes by the news of an event as the definition says.
use Rattle.std.proofs.Common.{◌≡◌, ℕ, ◌||◌, Bool, true, false, cond, Option}
use Rattle.std.proofs.Common.{option_map, refl, sym, ◌∙◌, ap, subst}
use Rattle.std.specs.Option.{option_or}
use Rattle.rec_events.proofs.TestOrder.{test_eq-true}
use Rattle.rec_events.specs.declared.events.CoreEventKind.TheVariants.{
  TestStarted,
  TestRetryStarted,
}
use Rattle.rec_events.specs.declared.events.CoreEventKind.{CoreEventKind}
use Rattle.rec_events.specs.declared.events.OutputEventKind.TheVariants.{
  SetupScriptFinished,
  TestAttemptFailedWillRetry,
  TestFinished,
}
use Rattle.rec_events.specs.declared.events.TestEventKindSummary.TheVariants.{Core, Output}
use Rattle.rec_events.specs.declared.groups.TestGroup.{TestGroup}
use Rattle.rec_events.specs.declared.instances.OwnedTestInstanceId.{OwnedTestInstanceId}
use Rattle.rec_events.specs.Tests.{test_eq}
use Rattle.rec_trace_events.specs.declared.rows.Row.{Row}
use Rattle.rec_spans.specs.Acts.{act_of}
use Rattle.rec_spans.specs.declared.spans.Span.{Span}
use Rattle.rec_spans.specs.Past.{TraceInput}
use Rattle.rec_spans.specs.Plain.{PlainKind, PlainOutputKind}
use Rattle.rec_spans.specs.Starts.{started}
use Rattle.rec_trace.proofs.Same.{same-from, same-is, same-trans}
use Rattle.rec_trace.specs.declared.known.news.News.{News}
use Rattle.rec_trace.specs.declared.known.news.TestNews.{TestNews}
use Rattle.rec_trace.specs.Known.{Known, SameKnown, arrow_after, core_arrow, core_group}
use Rattle.rec_trace.specs.Known.{group_after, marked_row, names, next_known, of_test}
use Rattle.rec_trace.specs.Known.{output_arrow, output_group, row_to_name}
use Rattle.rec_trace.specs.KnownMaps.{arrows_with, groups_with}
use Rattle.rec_trace.specs.KnownNews.{Tells, core_test, known_with, news_with}
use Rattle.rec_trace.specs.KnownNews.{output_test, row_of, test_news}

-- the same news leaves the same known
same-with : (news : News) (a b : Known) → SameKnown a b
    → SameKnown (known_with news a) (known_with news b)
same-with news a b same = same-from (ap (known_with news) (same-is same))

-- ---- news

-- what was known of a test stays
of_test-same : {X : Type 0} (test : OwnedTestInstanceId) (f : OwnedTestInstanceId → Option X)
    (other : OwnedTestInstanceId)
    → of_test test (f test) f other ≡ f other
of_test-same test f other = go (test_eq test other) refl
  where
    go : (b : Bool) → test_eq test other ≡ b → cond b (f test) (f other) ≡ f other
    go true h = ap f (test_eq-true test other h)
    go false h = refl

core-groups : (kind : CoreEventKind) (f : OwnedTestInstanceId → Option TestGroup)
    (t : OwnedTestInstanceId)
    → groups_with (core_test kind) f t ≡ core_group kind f t
core-groups (TestStarted stress_index test slot_assignment current_stats running command_line) f t =
    refl
core-groups (TestRetryStarted stress_index test slot_assignment retry_data running command_line)
    f t =
    refl
core-groups _ f t = refl

core-arrows : (kind : CoreEventKind) (f : OwnedTestInstanceId → Option ℕ) (t : OwnedTestInstanceId)
    → arrows_with (core_test kind) f t ≡ core_arrow kind f t
core-arrows (TestStarted stress_index test slot_assignment current_stats running command_line) f t =
    of_test-same test f t
core-arrows (TestRetryStarted stress_index test slot_assignment retry_data running command_line)
    f t =
    refl
core-arrows _ f t = refl

module _ (flow : ℕ) where
  output-groups : (kind : PlainOutputKind) (f : OwnedTestInstanceId → Option TestGroup)
      (t : OwnedTestInstanceId)
      → groups_with (output_test flow kind) f t ≡ output_group kind f t
  output-groups (SetupScriptFinished stress index total script program args no_capture status) f t =
      refl
  output-groups (TestAttemptFailedWillRetry stress test status delay failure running) f t = refl
  output-groups (TestFinished stress test success failure store_success store_failure flaky statuses
      current_stats running) f t = refl

  output-arrows : (kind : PlainOutputKind) (f : OwnedTestInstanceId → Option ℕ)
      (t : OwnedTestInstanceId)
      → arrows_with (output_test flow kind) f t ≡ output_arrow flow kind f t
  output-arrows (SetupScriptFinished stress index total script program args no_capture status) f t =
      refl
  output-arrows (TestAttemptFailedWillRetry stress test status delay failure running) f t = refl
  output-arrows (TestFinished stress test success failure store_success store_failure flaky statuses
      current_stats running) f t = of_test-same test f t

  groups-after : (kind : PlainKind) (f : OwnedTestInstanceId → Option TestGroup)
      (t : OwnedTestInstanceId)
      → groups_with (test_news flow kind) f t ≡ group_after kind f t
  groups-after (Core kind) f t = core-groups kind f t
  groups-after (Output kind) f t = output-groups kind f t

  arrows-after : (kind : PlainKind) (f : OwnedTestInstanceId → Option ℕ) (t : OwnedTestInstanceId)
      → arrows_with (test_news flow kind) f t ≡ arrow_after flow kind f t
  arrows-after (Core kind) f t = core-arrows kind f t
  arrows-after (Output kind) f t = output-arrows kind f t

  row-after : (span : Option Span) (kind : PlainKind) (input : TraceInput)
      → span ≡ started input.change → input.act ≡ act_of kind → row_of span kind ≡ row_to_name input
  row-after span kind input starts acts =
      ap (λ s. option_or (option_map (λ (x : Span). x.row) s) (marked_row (act_of kind))) starts
      ∙ ap (λ a. option_or (option_map (λ (x : Span). x.row) (started input.change)) (marked_row a))
      (sym acts)

  told : (span : Option Span) (kind : PlainKind)
      → Tells flow span kind (news_with (row_of span kind) (test_news flow kind) kind)
  told span kind input starts acts known = record {
    is_named =
        λ row. ap (λ r. names r row || known.is_named row) (row-after span kind input starts acts);
    running = refl;
    last_run = refl;
    group = λ test. groups-after kind known.group test;
    arrow = λ test. arrows-after kind known.arrow test;
  }

  -- the news of an event tells what is known after it
  pub tells : (span : Option Span) (kind : PlainKind) (row : Option Row) (test : Option TestNews)
      (news : News)
      → row ≡ row_of span kind → test ≡ test_news flow kind → news ≡ news_with row test kind
      → Tells flow span kind news
  tells span kind row test news rows tests is =
      subst (Tells flow span kind) (sym (is ∙ ap (λ r. news_with r test kind) rows
      ∙ ap (λ t. news_with (row_of span kind) t kind) tests))
      (told span kind)

  -- What is known is the same as k. Room is made for the news of an event, and the news is taken:
  -- then the same is known as after k and the event
  pub known-step : (span : Option Span) (kind : PlainKind) (news : News) (input : TraceInput)
      (k old prepared new : Known)
      → Tells flow span kind news → span ≡ started input.change → input.act ≡ act_of kind
      → SameKnown old k → SameKnown prepared old → SameKnown new (known_with news prepared)
      → SameKnown new (next_known flow input kind k)
  known-step span kind news input k old prepared new telling starts acts known same taken =
      same-trans taken
      (same-trans (same-with news prepared k (same-trans same known)) (telling input starts acts k))
