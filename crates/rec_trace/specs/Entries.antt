-- No entry is kept that says nothing: neither one of a row that wasn't named nor one of a test of
-- which nothing is noted. So the entry of a test that ended isn't kept,
-- unless an arrow is pending for it.
use Rattle.std.specs.Prelude.{◌≡◌, ◌||◌, Bool, true, false, Option, None, Some, is_some, IfSome}
use Rattle.rec_events.specs.declared.instances.OwnedTestInstanceId.{OwnedTestInstanceId}
use Rattle.rec_events.specs.Tests.{test_eq}
use Rattle.rec_trace_events.specs.declared.rows.Row.{Row}
use Rattle.rec_trace.specs.declared.known.Known as kept
use Rattle.rec_trace.specs.declared.known.names.Names.{Names}
use Rattle.rec_trace.specs.declared.known.news.News.{News}
use Rattle.rec_trace.specs.declared.known.news.TestNews.{TestNews}
use Rattle.rec_trace.specs.declared.known.notes.Notes.{Notes}
use Rattle.rec_trace.specs.declared.known.notes.TestNotes.{TestNotes}
use Rattle.rec_trace.specs.Known.{names}
use Rattle.rec_trace.specs.KnownMaps.{notes_of, row_entry}

-- ---- rows

-- if the row has an entry, it was named
abbrev pub RowSays : Names → Row → Type 0
RowSays names row = IfSome (row_entry names row) (λ named. named ≡ true)

abbrev pub EachRowSays : Names → Type 0
EachRowSays names = (row : Row) → RowSays names row

-- room may have been made for the names of this row and of its process
abbrev pub EachRowSaysBut : Option Row → Names → Type 0
EachRowSaysBut new kept = (row : Row) → names new row ≡ false → RowSays kept row

-- ---- tests

-- a group or an arrow is noted
abbrev pub notes_say : TestNotes → Bool
notes_say notes = is_some notes.group || is_some notes.arrow

-- if the test has an entry, something is noted of it
abbrev pub TestSays : Notes → OwnedTestInstanceId → Type 0
TestSays notes test = IfSome (notes_of notes test) (λ n. notes_say n ≡ true)

abbrev pub EachTestSays : Notes → Type 0
EachTestSays notes = (test : OwnedTestInstanceId) → TestSays notes test

abbrev pub is_about : Option TestNews → OwnedTestInstanceId → Bool
is_about None test = false
is_about (Some news) test = test_eq news.test test

-- room may have been made for the notes of the test of which there is this news
abbrev pub EachTestSaysBut : Option TestNews → Notes → Type 0
EachTestSaysBut news notes =
    (test : OwnedTestInstanceId) → is_about news test ≡ false → TestSays notes test

-- ---- all that is kept

pub record EachSays (k : kept.Known) : Type 0 where
  pub rows : EachRowSays k.names
  pub tests : EachTestSays k.notes

-- room may have been made for this news
pub record EachSaysBut (news : News) (k : kept.Known) : Type 0 where
  pub rows : EachRowSaysBut news.row k.names
  pub tests : EachTestSaysBut news.test k.notes
