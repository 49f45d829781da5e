-- The texts of the trace events so far, as they are kept.
use Rattle.std.specs.List.{AllByRecursion}
use Rattle.std.specs.Prelude.{◌≡◌, ℕ, List, [], ◌∷◌, ◌++◌, Bool, true, false}
use Rattle.serde_json.specs.Data.{Data}
use Rattle.rec_forms.specs.Writable.{IsWritable}
use Rattle.rec_trace.specs.declared.printed.Printed.{Printed}
use Rattle.rec_trace.specs.declared.settings.ChromeTraceMessageFormat.{ChromeTraceMessageFormat}
use Rattle.rec_trace.specs.Texts.{event_texts}

abbrev pub has_some : List Data → Bool
has_some [] = false
has_some (d ∷ ds) = true

-- whatever else was written, this stands before it
abbrev pub StartsWith : List ℕ → List ℕ → Type 0
StartsWith text longer = (more : List ℕ) × (longer ≡ text ++ more)

-- the text of each is one that is read as this event again
abbrev pub AreWritable : List Data → Type 0
AreWritable events = AllByRecursion (IsWritable 9) events

-- the texts of these trace events are kept, with commas between them
pub record AreKept (format : ChromeTraceMessageFormat) (events : List Data)
    (p : Printed) : Type 0 where
  pub format_kept : p.format ≡ format
  pub some : p.has_events ≡ has_some events
  pub text : p.text.items ≡ event_texts format false events
  pub writable : AreWritable events
