-- What a builder's maps say of rows and tests, and what news of a test changes.
use Rattle.std.specs.Bool.{⊤}
use Rattle.std.specs.Map.{lookup}
use Rattle.std.specs.Option.{unwrap_or}
use Rattle.std.specs.Prelude.{ℕ, Bool, false, Option, None, Some}
use Rattle.std.specs.Prelude.{IsSome, option_and_then, option_copied}
use Rattle.rec_events.specs.declared.groups.TestGroup.{TestGroup}
use Rattle.rec_events.specs.declared.instances.OwnedTestInstanceId.{OwnedTestInstanceId}
use Rattle.rec_events.specs.Tests.{test_eq}
use Rattle.rec_trace_events.specs.declared.rows.Row.{Row}
use Rattle.rec_trace_events.specs.TraceEvents.{process_row}
use Rattle.rec_spans.specs.Keys.{row_eq}
use Rattle.rec_trace.specs.declared.known.names.Names.{Names}
use Rattle.rec_trace.specs.declared.known.news.ArrowNews.TheVariants.{Stays, Finishes, Starts}
use Rattle.rec_trace.specs.declared.known.news.ArrowNews.{ArrowNews}
use Rattle.rec_trace.specs.declared.known.news.NewTest.{NewTest}
use Rattle.rec_trace.specs.declared.known.news.TestNews.{TestNews}
use Rattle.rec_trace.specs.declared.known.notes.Notes.{Notes}
use Rattle.rec_trace.specs.declared.known.notes.TestNotes.{TestNotes}
use Rattle.rec_trace.specs.Known.{of_test}

-- ---- rows

-- what the entry of a row says
abbrev pub row_entry : Names → Row → Option Bool
row_entry names row = lookup (row_eq row) names.rows.entries

-- a row without an entry wasn't named
abbrev pub row_named : Names → Row → Bool
row_named names row = unwrap_or (row_entry names row) false

abbrev pub HasRow : Row → Names → Type 0
HasRow row names = IsSome (row_entry names row)

-- there is an entry for a row, and one for its process
abbrev pub HasRows : Option Row → Names → Type 0
HasRows None names = ⊤
HasRows (Some row) names = HasRow row names × HasRow (process_row row.pid) names

-- ---- tests

-- the notes of a test
abbrev pub notes_of : Notes → OwnedTestInstanceId → Option TestNotes
notes_of notes test = lookup (test_eq test) notes.tests.entries

abbrev pub group_noted : Notes → OwnedTestInstanceId → Option TestGroup
group_noted notes test = option_and_then (λ n. n.group) (notes_of notes test)

abbrev pub arrow_noted : Notes → OwnedTestInstanceId → Option ℕ
arrow_noted notes test = option_and_then (λ n. n.arrow) (notes_of notes test)

abbrev pub HasTest : OwnedTestInstanceId → Notes → Type 0
HasTest test notes = IsSome (notes_of notes test)

-- there is an entry for the test of which there is news
abbrev pub HasTests : Option TestNews → Notes → Type 0
HasTests None notes = ⊤
HasTests (Some news) notes = HasTest news.test notes

-- ---- news of a test

-- the pending arrow after news of it
abbrev pub arrow_with : ArrowNews → Option ℕ → Option ℕ
arrow_with Stays before = before
arrow_with Finishes before = None
arrow_with (Starts flow) before = Some flow

abbrev pub groups_with : Option TestNews → (OwnedTestInstanceId → Option TestGroup)
    → OwnedTestInstanceId → Option TestGroup
groups_with None before = before
groups_with (Some news) before = of_test news.test news.group before

abbrev pub arrows_with : Option TestNews → (OwnedTestInstanceId → Option ℕ) → OwnedTestInstanceId
    → Option ℕ
arrows_with None before = before
arrows_with (Some news) before = of_test news.test (arrow_with news.arrow (before news.test)) before

-- news that is lent is the news of which it lends
abbrev pub test_told : NewTest → TestNews
test_told news =
    record { test = news.test.now; group = option_copied news.group; arrow = news.arrow }
