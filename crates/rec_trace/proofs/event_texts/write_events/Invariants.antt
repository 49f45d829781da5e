use Rattle.std.proofs.Common.{◌≡◌, ◌++◌, ◌||◌, drop, map}
use Rattle.rec_trace_events.specs.EventTexts.{event_value}
use Rattle.rec_trace.proofs.event_texts.write_events.Given as goal
use Rattle.rec_trace.specs.Kept.{AreWritable, StartsWith, has_some}
use Rattle.rec_trace.specs.Texts.{event_texts}

-- what is left completes the texts of all
abbrev pub invariant-loop-event : goal.invariant-loop-event
invariant-loop-event l =
    let rest = map event_value (drop l.event-index l.events) in
    record {
      some : (l.later || has_some rest) ≡ (l.fn.later || has_some (map event_value l.events));
      written : l.text.items ++ event_texts l.fn.format l.later rest
          ≡ l.fn.text.items ++ event_texts l.fn.format l.fn.later (map event_value l.events);
      known : AreWritable rest → AreWritable (map event_value l.events);
      before : StartsWith l.fn.text.items l.text.items;
    }
