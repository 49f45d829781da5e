-- What a builder keeps of what is known, and the news that an event brings.
use Rattle.std.specs.Option.{option_or, unwrap_or}
use Rattle.std.specs.Prelude.{◌≡◌, ℕ, ◌||◌, Option, None, Some, option_map}
use Rattle.rec_events.specs.declared.events.CoreEventKind.TheVariants.{
  TestStarted,
  TestRetryStarted,
}
use Rattle.rec_events.specs.declared.events.CoreEventKind.{CoreEventKind}
use Rattle.rec_events.specs.declared.events.OutputEventKind.TheVariants.{
  SetupScriptFinished,
  TestAttemptFailedWillRetry,
  TestFinished,
}
use Rattle.rec_events.specs.declared.events.TestEventKindSummary.TheVariants.{Core, Output}
use Rattle.rec_trace_events.specs.declared.rows.Row.{Row}
use Rattle.rec_spans.specs.Acts.{act_of}
use Rattle.rec_spans.specs.declared.spans.Span.{Span}
use Rattle.rec_spans.specs.Past.{TraceInput}
use Rattle.rec_spans.specs.Plain.{PlainKind, PlainOutputKind}
use Rattle.rec_spans.specs.Starts.{started}
use Rattle.rec_trace.specs.declared.known.Known as kept
use Rattle.rec_trace.specs.declared.known.news.ArrowNews.TheVariants.{Stays, Finishes, Starts}
use Rattle.rec_trace.specs.declared.known.news.News.{News}
use Rattle.rec_trace.specs.declared.known.news.TestNews.{TestNews}
use Rattle.rec_trace.specs.Known.{Known, SameKnown, marked_row, names}
use Rattle.rec_trace.specs.Known.{next_known, run_of, running_of}
use Rattle.rec_trace.specs.KnownMaps.{HasRows, HasTests, arrow_noted, arrows_with}
use Rattle.rec_trace.specs.KnownMaps.{group_noted, groups_with, row_named}

-- what is known, by what is kept of it
abbrev pub known_in : kept.Known → Known
known_in k = record {
  is_named = row_named k.names;
  running = k.running;
  last_run = k.last_run;
  group = group_noted k.notes;
  arrow = arrow_noted k.notes;
}

-- ---- news of an event

-- the row that an event names: that of the span that it starts, or that of its mark
abbrev pub row_of : Option Span → PlainKind → Option Row
row_of span kind = option_or (option_map (λ s. s.row) span) (marked_row (act_of kind))

abbrev pub core_test : CoreEventKind → Option TestNews
core_test (TestStarted stress_index test slot_assignment current_stats running command_line) =
    Some (record { test = test; group = Some slot_assignment.test_group; arrow = Stays })
core_test (TestRetryStarted stress_index test slot_assignment retry_data running command_line) =
    Some (record { test = test; group = Some slot_assignment.test_group; arrow = Finishes })
core_test _ = None

abbrev pub output_test : ℕ → PlainOutputKind → Option TestNews
output_test flow (SetupScriptFinished stress index total script program args no_capture status) =
    None
output_test flow (TestAttemptFailedWillRetry stress test status delay failure running) =
    Some (record { test = test; group = None; arrow = Starts flow })
output_test flow (TestFinished stress test success failure store_success store_failure flaky
    statuses current_stats running) =
    Some (record { test = test; group = None; arrow = Stays })

-- what an event decides of a test; a failed attempt has this flow number
abbrev pub test_news : ℕ → PlainKind → Option TestNews
test_news flow (Core kind) = core_test kind
test_news flow (Output kind) = output_test flow kind

-- the news of an event that names this row and decides this of a test
abbrev pub news_with : Option Row → Option TestNews → PlainKind → News
news_with row test kind =
    record { row = row; running = running_of kind; run = run_of kind; test = test }

-- ---- what news changes

-- what is known with this news
abbrev pub known_with : News → Known → Known
known_with news known = record {
  is_named = λ row. names news.row row || known.is_named row;
  running = unwrap_or news.running known.running;
  last_run = option_or news.run known.last_run;
  group = groups_with news.test known.group;
  arrow = arrows_with news.test known.arrow;
}

-- to take this news takes no memory
pub record HasRoom (news : News) (k : kept.Known) : Type 0 where
  pub rows : HasRows news.row k.names
  pub tests : HasTests news.test k.notes

-- with this news, the same is known as after an event of this kind which has this next flow number
-- and starts this span
abbrev pub Tells : ℕ → Option Span → PlainKind → News → Type 0
Tells flow span kind news =
    (input : TraceInput) → span ≡ started input.change → input.act ≡ act_of kind → (known : Known)
    → SameKnown (known_with news known) (next_known flow input kind known)
