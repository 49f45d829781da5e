-- What stands among the events of a run, from one to another.
use Rattle.std.specs.Option.{unwrap_or}
use Rattle.std.specs.Prelude.{◌≡◌, ◌≤◌, ℕ, List, length, Option}
use Rattle.rec_codec.specs.Event.{RecordedEvent}
use Rattle.rec_view.specs.declared.instants.Instants.{Instants}
use Rattle.rec_view.specs.declared.shown_gaps.ShownGaps.{ShownGaps}
use Rattle.rec_view.specs.Instants.{TellsInstants}
use Rattle.rec_view.specs.ShownGaps.{AreGaps}
use Rattle.rec_view_json.specs.Views.{history_of}

-- what starts at an event ends at one of these, or past the last one, and these are their gaps and
-- their instants
pub record Fits (events : List RecordedEvent) (gaps : ShownGaps) (instants : Option Instants)
    (from : ℕ) (to : Option ℕ) : Type 0 where
  pub kept : AreGaps (history_of events) gaps
  pub told : TellsInstants (history_of events) instants
  pub many : length gaps.shown.items ≡ length events
  pub order : from ≤ unwrap_or to (length events)
  pub within : unwrap_or to (length events) ≤ length events
