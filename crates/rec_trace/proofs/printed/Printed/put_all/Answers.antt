use Rattle.std.proofs.Common.{◌||◌, ◌++◌, length, map, take, false, ap, sym, ◌∙◌}
use Rattle.rec_trace_events.specs.EventTexts.{event_value}
use Rattle.rec_trace.proofs.printed.Printed.put_all.Goals as goal
use Rattle.rec_trace.proofs.PrintedEvents.{some-append, take-prefix, texts-append, writable-append}
use Rattle.rec_trace.specs.Kept.{has_some}
use Rattle.rec_trace.specs.Texts.{event_texts}

pub returns-in-Ok-clause-all : goal.returns-in-Ok-clause-all
returns-in-Ok-clause-all c = λ format kept are.
    let old = c.args.self.now in
    let events = map event_value c.args.events.now in
    record {
      format_kept = are.format_kept;
      some =
          c.in-Ok.ensures.some ∙ ap (λ b. b || has_some events) are.some
          ∙ sym (some-append kept events);
      text =
          c.in-Ok.ensures.written
          ∙ ap (λ f. old.text.items ++ event_texts f old.has_events events) are.format_kept
          ∙ ap (λ b. old.text.items ++ event_texts format b events) are.some
          ∙ ap (λ s. s ++ event_texts format (has_some kept) events) are.text
          ∙ sym (texts-append format false kept events);
      writable = writable-append kept events are.writable c.in-Ok.ensures.known;
    }

pub returns-in-Err-clause-same : goal.returns-in-Err-clause-same
returns-in-Err-clause-same c = λ format kept are.
    let old = c.args.self.now.text.items in
    let before = c.in-Err.ensures.before in
    record {
      format_kept = are.format_kept;
      some = are.some;
      text =
          c.truncate.ensures.items ∙ ap (λ n. take n c.write_events.new.text.items)
          (ap length c.as_slice-before.ensures.value)
          ∙ ap (take (length old)) before.1 ∙ take-prefix old before.0 ∙ are.text;
      writable = are.writable;
    }
