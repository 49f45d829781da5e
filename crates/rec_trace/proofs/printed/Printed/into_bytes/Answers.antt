use Rattle.std.proofs.Common.{◌≡◌, ◌++◌, false, ap, ap₂, sym, ◌∙◌, append_assoc}
use Rattle.rec_trace.proofs.printed.Printed.into_bytes.Goals as goal
use Rattle.rec_trace.proofs.TraceTexts.{trace-parts}
use Rattle.rec_trace.specs.Kept.{has_some}
use Rattle.rec_trace.specs.Texts.{event_texts, other_data, trace_end, trace_prefix}

pub returns-clause-known : goal.returns-clause-known
returns-clause-known c = c.in_ok-other_data.ensures.known

pub returns-clause-written : goal.returns-clause-written
returns-clause-written c = λ format events are.
    let other = other_data c.args.version.now c.args.last_run.now in
    let prefix : c.deref-2.result.now ≡ trace_prefix format other =
    c.deref-2.ensures.value ∙ c.in_ok-prefix.ensures other
    (c.deref.ensures ∙ c.in_ok-other_data.ensures.text) c.in_ok-other_data.ensures.known
    ∙ ap (λ f. trace_prefix f other) are.format_kept in
    let begun : c.insert_str.new.self.items
    ≡ trace_prefix format other ++ event_texts format false events =
    c.in_ok-insert_str.ensures.ok
    ∙ ap₂ (λ a b. a ++ b) prefix (c.in_ok-reserve_exact.ensures.items ∙ are.text) in
    let end : c.as_bytes.result.now ≡ trace_end format (has_some events) =
    c.as_bytes.ensures.value ∙ c.trace_end-end.ensures ∙ ap₂ trace_end are.format_kept are.some in
    c.in_ok-extend_from_slice.ensures.items ∙ ap₂ (λ a b. a ++ b) begun end
    ∙ append_assoc (trace_prefix format other) (event_texts format false events)
    (trace_end format (has_some events))
    ∙ sym (trace-parts format other events c.in_ok-other_data.ensures.known are.writable)
