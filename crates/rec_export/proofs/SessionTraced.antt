-- The trace of a session, with one event more and with those of a line more.
use Rattle.std.proofs.Common.{◌≡◌, inl, inr, List, [], ◌∷◌, ◌++◌, map, append_assoc, append-nil}
use Rattle.std.proofs.Common.{Option, None, Some, is_some, true, false, Err, ap, sym}
use Rattle.std.specs.List.{cons_option}
use Rattle.std.specs.Option.{option_to_list}
use Rattle.semver.specs.Parse.{Parts}
use Rattle.rec_codec.specs.Event.{LiveEvent}
use Rattle.rec_spans.proofs.Histories.{refused-more}
use Rattle.rec_spans.specs.declared.errors.ChromeTraceError.TheVariants.{OutOfMemory}
use Rattle.rec_spans.specs.declared.errors.ChromeTraceError.{ChromeTraceError}
use Rattle.rec_spans.specs.declared.settings.ChromeTraceGroupBy.{ChromeTraceGroupBy}
use Rattle.rec_spans.specs.Plain.{PlainEvent, plain}
use Rattle.rec_spans.specs.Refusals.{events_refusal}
use Rattle.rec_trace.specs.declared.printed_trace.PrintedTrace.{PrintedTrace}
use Rattle.rec_trace.specs.declared.settings.ChromeTraceMessageFormat.{ChromeTraceMessageFormat}
use Rattle.rec_trace.specs.Traces.{HasTraced, Traces}
use Rattle.rec_export.specs.SessionTraces.{IsTracedOr}

-- what holds the refusal of events holds it with more after them
pub refused_stays : (format : ChromeTraceMessageFormat) (g : ChromeTraceGroupBy) (version : Parts)
    (events : List PlainEvent) (event : PlainEvent) (trace : PrintedTrace)
    (o : Option ChromeTraceError)
    → is_some o ≡ true → IsTracedOr format g version events trace o
    → IsTracedOr format g version (events ++ event ∷ []) trace o
refused_stays format g version events event trace None some is = absurd cc
refused_stays format g version events event trace (Some e) some is =
    refused-more g events (event ∷ []) e is

-- an event is traced after others, or refused after them
module _ (format : ChromeTraceMessageFormat) (g : ChromeTraceGroupBy) (version : Parts)
    (events : List PlainEvent) (event : PlainEvent) (old new : PrintedTrace) where
  pub traced_then : (o : Option ChromeTraceError) → is_some o ≡ false
      → IsTracedOr format g version events old o
      → ((f : ChromeTraceMessageFormat) (k : ChromeTraceGroupBy) (v : Parts)
      (past : List PlainEvent)
      → HasTraced f k v past old → HasTraced f k v (past ++ event ∷ []) new)
      → IsTracedOr format g version (events ++ event ∷ []) new o
  traced_then None none has step = step format g version events has
  traced_then (Some e) none has step = absurd cc

  pub refused_then : (o : Option ChromeTraceError) (e : ChromeTraceError) → is_some o ≡ false
      → IsTracedOr format g version events old o → (e ≡ OutOfMemory → ⊥)
      → ((f : ChromeTraceMessageFormat) (k : ChromeTraceGroupBy) (v : Parts)
      (past : List PlainEvent) → HasTraced f k v past old → Traces f k v past event new (Err e))
      → events_refusal g (events ++ event ∷ []) ≡ Some e
  refused_then None e none has other step = elim (step format g version events has).0 [
    | inl memory ↦ absurd (other memory)
    | inr refused ↦ refused
  ]
  refused_then (Some x) e none has other step = absurd cc

-- the event of a line stands before those of the rest
pub plain_next : (so_far : List PlainEvent) (o : Option LiveEvent) (rest : List LiveEvent)
    → so_far ++ map plain (cons_option o rest)
    ≡ (so_far ++ map plain (option_to_list o)) ++ map plain rest
plain_next so_far None rest = ap (λ l. l ++ map plain rest) (sym (append-nil so_far))
plain_next so_far (Some event) rest = sym (append_assoc so_far (plain event ∷ []) (map plain rest))
