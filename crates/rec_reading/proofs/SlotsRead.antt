-- What is reported of the slots of a bundle's run.
use Rattle.std.proofs.Common.{◌≡◌, inl, inr, ℕ, List, map, Result, Ok, Err, Vec, Global, refl}
use Rattle.rec_container.specs.Container.{Entry}
use Rattle.rec_codec.specs.Event.{RecordedEvent}
use Rattle.rec_spans.specs.Plain.{PlainEvent, plain}
use Rattle.rec_slots.specs.declared.report.SlotError.TheVariants as causes
use Rattle.rec_slots.specs.declared.report.SlotError.{SlotError}
use Rattle.rec_slots.specs.Refusals.{IsRefused}
use Rattle.rec_errors.specs.declared.reading_error.ReadingError.{ReadingError}
use Rattle.rec_errors.specs.ReadingErrors.{slot_error}
use Rattle.rec_reading.proofs.Opened.{Refused}
use Rattle.rec_reading.specs.Listing.{Makes}
use Rattle.rec_reading.specs.LogEvents.{run_events}
use Rattle.rec_reading.specs.Slots.{PrintsSlots, PrintsUsage}

module _ (limit : ℕ) (es : List Entry) where
  -- the events aren't read
  pub slots-unread : (e : ReadingError) → Refused (run_events limit es) e
      → Makes (PrintsSlots limit es) (Err e)
  slots-unread e (inl memory) = inl memory
  slots-unread e (inr refused) = inr (inl refused)

  pub slots-made : (events : List RecordedEvent) → run_events limit es ≡ Ok events
      → (r : Result (Vec ℕ Global) ReadingError) → Makes (PrintsUsage (map plain events)) r
      → Makes (PrintsSlots limit es) r
  slots-made events all (Ok text) made = (events, all, made)
  slots-made events all (Err e) (inl memory) = inl memory
  slots-made events all (Err e) (inr refused) = inr (inr (events, all, refused))

-- why there is no report, but for want of memory
pub unused : (events : List PlainEvent) (cause : SlotError) → IsRefused events cause
    → Makes (PrintsUsage events) (Err (slot_error cause))
unused events (causes.Refused e) refused = inr (causes.Refused e, (λ same. cc), refused, refl)
unused events causes.NotOneRun refused = inr (causes.NotOneRun, (λ same. cc), refused, refl)
unused events (causes.AttemptOutside event) refused =
    inr (causes.AttemptOutside event, (λ same. cc), refused, refl)
unused events (causes.StampFell event) refused =
    inr (causes.StampFell event, (λ same. cc), refused, refl)
unused events causes.OutOfMemory refused = inl refl
