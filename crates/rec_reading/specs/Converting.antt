-- The live events that a bundle's recorded events stand for.
use Rattle.std.specs.Borrow.{Bor}
use Rattle.std.specs.Option.{option_or}
use Rattle.std.specs.Prelude.{ℕ, List, Bool, Option, Some, None, option_map, Result, Ok, Err}
use Rattle.rec_container.specs.Container.{Entry}
use Rattle.rec_events.specs.declared.instances.OwnedTestInstanceId.{OwnedTestInstanceId}
use Rattle.rec_events.specs.declared.live_events.TestEvent.{TestEvent}
use Rattle.rec_events.specs.declared.live_events.TestEventKind.TheVariants as live
use Rattle.rec_events.specs.declared.live_events.TestEventKind.{TestEventKind}
use Rattle.rec_events.specs.TestLists.{Tests}
use Rattle.rec_events.specs.Tests.{is_listed}
use Rattle.rec_codec.specs.Event.{RecordedEvent}
use Rattle.rec_replay.specs.Conversions.{event_refusal}
use Rattle.rec_replay.specs.declared.conversion_error.ReplayConversionError.TheVariants.{RecordRead}
use Rattle.rec_replay.specs.declared.conversion_error.ReplayConversionError.{ReplayConversionError}
use Rattle.rec_replay.specs.declared.output_load.LoadOutput.{LoadOutput}
use Rattle.rec_replay.specs.Loading.{event_names, first_refusal}
use Rattle.rec_replay.specs.Replaying.{replayed}
use Rattle.rec_errors.specs.declared.reading_error.ReadingError.TheVariants.{Conversion}
use Rattle.rec_errors.specs.declared.reading_error.ReadingError.{ReadingError}
use Rattle.rec_reading.specs.RunParts.{RunParts}

-- ---- what becomes of a recorded event

-- this refusal, or else x
abbrev pub unless_refused : {T : Type 0} → Option ReadingError → T → Result T ReadingError
unless_refused None x = Ok x
unless_refused (Some e) x = Err e

module _ (registered : OwnedTestInstanceId → Bool) (list : Bor Tests) (load : LoadOutput)
    (store : List Entry) (limit : ℕ) where
  -- why an event isn't replayed: its own refusal, or else that of the first of its outputs that
  -- isn't read
  abbrev pub conversion_refusal : RecordedEvent → Option ReplayConversionError
  conversion_refusal e =
      option_or (event_refusal registered e)
      (option_map RecordRead (first_refusal store limit (event_names load e)))

  abbrev pub converted : RecordedEvent → Result TestEvent ReadingError
  converted e =
      unless_refused (option_map Conversion (conversion_refusal e)) (replayed load list store e)

-- a run's tests, as they are lent to its events; where they stand in memory is no part of what is
-- printed
abbrev pub lent_tests : RunParts → Bor Tests
lent_tests parts =
    record { ref_ptr = (0, 0); now = record { mode = parts.mode; summary = parts.tests } }

-- the event of a run's log, where each test of its list is registered
abbrev pub converted_of : LoadOutput → ℕ → RunParts → RecordedEvent → Result TestEvent ReadingError
converted_of load limit parts =
    converted (is_listed parts.tests) (lent_tests parts) load parts.store limit

-- ---- where tests stand in memory

-- a live event with its tests lent from elsewhere
abbrev pub kind_lent : Bor Tests → TestEventKind → TestEventKind
kind_lent list (live.RunStarted tests run profile args condition) =
    live.RunStarted list run profile args condition
kind_lent list kind = kind

abbrev pub lent : Bor Tests → TestEvent → TestEvent
lent list e = record { timestamp = e.timestamp; elapsed = e.elapsed; kind = kind_lent list e.kind }
