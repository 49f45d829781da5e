-- Events without their outputs. All that a trace shows of an event stands in its plain event.
use Rattle.rec_events.specs.declared.events.OutputEventKind.{OutputEventKind}
use Rattle.rec_events.specs.declared.events.TestEventKindSummary.{TestEventKindSummary}
use Rattle.rec_events.specs.declared.events.TestEventSummary.{TestEventSummary}
use Rattle.rec_events.specs.EventMaps.{event_with, kind_with, output_kind_with}

abbrev pub PlainEvent : Type 0
PlainEvent = TestEventSummary (Unit {0}) (Unit {0})

abbrev pub PlainKind : Type 0
PlainKind = TestEventKindSummary (Unit {0}) (Unit {0})

abbrev pub PlainOutputKind : Type 0
PlainOutputKind = OutputEventKind (Unit {0}) (Unit {0})

module _ {S O : Type 0} where
  -- no output is left of an event
  abbrev pub plain_output_kind : OutputEventKind S O → PlainOutputKind
  plain_output_kind k = output_kind_with (λ o. tt) k

  abbrev pub plain_kind : TestEventKindSummary S O → PlainKind
  plain_kind k = kind_with (λ o. tt) k

  abbrev pub plain : TestEventSummary S O → PlainEvent
  plain e = event_with (λ o. tt) e
