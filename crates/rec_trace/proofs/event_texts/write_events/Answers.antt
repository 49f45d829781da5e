use Rattle.std.proofs.Common.{◌≡◌, ℕ, List, ◌∷◌, ◌++◌, ◌+◌, ◌||◌, Bool, drop, map}
use Rattle.std.proofs.Common.{true, false, refl, sym, ◌∙◌, ap, subst, append_assoc}
use Rattle.std.proofs.lemmas.List.{drop_more}
use Rattle.serde_json.specs.Written.{comma_if}
use Rattle.rec_trace_events.specs.EventTexts.{event_value}
use Rattle.rec_trace.proofs.event_texts.write_events.Goals as goal
use Rattle.rec_trace.specs.Kept.{AreWritable, has_some}
use Rattle.rec_trace.specs.Texts.{event_text, event_texts}

pub loop-event-preserved : goal.loop-event-preserved
loop-event-preserved c =
    let at = c.loop-event in
    let events = c.args.events.now in
    let i = at.event-index in
    let event = c.event-item.result in
    let rest = map event_value (drop (i + 1) events) in
    let next : drop i events ≡ event ∷ drop (i + 1) events =
    drop_more events i event c.loop-event-test.true
    ∙ ap (λ x. x ∷ drop (i + 1) events) (sym c.event-item.is) in
    let here = event_text c.args.format (event_value event) in
    let write = c.in_ok-write_event.ensures in
    let write_before = write.before in
    record {
      some =
          sym (or-true at.later) ∙ ap (λ es. at.later || has_some (map event_value es)) (sym next)
          ∙ at.invariant.some;
      written =
          ap (λ s. s ++ event_texts c.args.format true rest) write.written
          ∙ onwards at.text.items (comma_if at.later) here (event_texts c.args.format true rest)
          ∙ ap (λ es. at.text.items ++ event_texts c.args.format at.later (map event_value es))
          (sym next)
          ∙ at.invariant.written;
      known =
          λ are. at.invariant.known
          (subst (λ es. AreWritable (map event_value es)) (sym next) (write.known, are));
      before = (
        at.invariant.before.0 ++ write_before.0,
        write_before.1 ∙ ap (λ s. s ++ write_before.0) at.invariant.before.1
            ∙ append_assoc c.args.text.now.items at.invariant.before.0 write_before.0,
      );
    }
  where
    or-true : (b : Bool) → (b || true) ≡ true
    or-true true = refl
    or-true false = refl

    onwards : (a b c d : List ℕ) → ((a ++ b) ++ c) ++ d ≡ a ++ (b ++ (c ++ d))
    onwards a b c d = simp append_assoc
