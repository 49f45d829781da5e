use Rattle.std.proofs.Common.{◌+◌, [], ap, is_some, length, min, subst, ◌∙◌}
use Rattle.rec_events.specs.Tests.{test_eq}
use Rattle.rec_spans.specs.History.{TraceState, after}
use Rattle.rec_spans.specs.Keys.{row_eq}
use Rattle.rec_spans.specs.Kinds.{history}
use Rattle.rec_spans.specs.Past.{binaries, open_spans}
use Rattle.rec_trace.proofs.Counting.{added-up}
use Rattle.rec_trace.proofs.tracer.Tracer.held.Goals as goal
use Rattle.rec_trace.specs.Held.{IsCountOf, binaries_held}
use Rattle.rec_trace.specs.Known.{Known}

pub returns : goal.returns
returns c = λ version events has.
    let g = c.args.self.now.group_by in
    let are_open = c.len-spans.ensures
    ∙ ap length (c.open_spans.ensures ∙ ap (λ (t : TraceState). t.spans) has.stands) in
    let have_started =
    c.binaries_held.ensures ∙ ap (λ (t : TraceState). binaries_held g t.binaries) has.stands in
    record {
      named = c.named.result;
      pending = c.pending.result;
      names =
          subst (λ (k : Known). IsCountOf row_eq k.is_named c.named.result) has.knows
          (c.named.ensures has.each_says);
      arrows =
          subst (λ (k : Known). IsCountOf test_eq (λ test. is_some (k.arrow test)) c.pending.result)
          has.knows c.pending.ensures;
      adds =
          added-up (length (open_spans (after [] (history g events))))
          c.named.result c.pending.result (binaries_held g (binaries (after [] (history g events))))
          c.saturating_add-known.result
          c.saturating_add.result c.saturating_add-2.result 18446744073709551615
          c.saturating_add-known.ensures
          (c.saturating_add.ensures
          ∙ ap (λ n. min (n + c.saturating_add-known.result) 18446744073709551615) are_open)
          (c.saturating_add-2.ensures
          ∙ ap (λ n. min (c.saturating_add.result + n) 18446744073709551615) have_started);
    }
