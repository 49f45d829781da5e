use Rattle.std.proofs.Common.{◌≡◌, ◌++◌, ◌-◌, ℕ, List, [], length, take}
use Rattle.std.proofs.Common.{subst, ap, ap₂, sym, ◌∙◌, arith, false}
use Rattle.std.proofs.lemmas.List.{length-append}
use Rattle.json.specs.Layout.{pretty}
use Rattle.json.specs.Lex.{tokens}
use Rattle.json.specs.Print.{ArePrintable}
use Rattle.serde_json.specs.Data.{Data}
use Rattle.rec_trace.proofs.PrintedEvents.{take-prefix}
use Rattle.rec_trace.proofs.TraceTexts.{empty-compact, empty-pretty}
use Rattle.rec_trace.proofs.TraceTexts.{empty-writable, printable-compact}
use Rattle.rec_trace.proofs.whole_text.pretty_prefix.Goals as goal
use Rattle.rec_trace.specs.declared.settings.ChromeTraceMessageFormat.TheVariants.{JsonPretty}
use Rattle.rec_trace.specs.Texts.{prefix_tokens, trace_end, trace_value}

pub returns : goal.returns
returns c = λ other is w.
    let end = c.trace_end.ensures in
    let line = c.deref.ensures ∙ c.in_ok-push_str.ensures.bytes ∙ ap₂ (λ a b. a ++ b) is end
    ∙ empty-compact other in
    let lines = c.in_ok-lines.ensures (subst (λ s. ArePrintable (tokens s)) (sym line)
    (printable-compact (trace_value other []) (empty-writable other w)))
    ∙ ap (λ s. pretty (tokens s)) line ∙ empty-pretty other w in
    c.truncate.ensures.items ∙ ap (λ xs. take c.saturating_sub-prefix_len.result xs) lines
    ∙ ap (λ n. take n (pretty (prefix_tokens other) ++ trace_end JsonPretty false))
    (prefix_long other c.in_ok-lines.lines.items lines (c.saturating_sub-prefix_len.ensures
    ∙ ap₂ (λ a b. a - b) (ap length c.as_slice.ensures.value) (ap length c.trace_end-end.ensures)))
    ∙ take-prefix (pretty (prefix_tokens other)) (trace_end JsonPretty false)
  where
    prefix_long : (other : Data) (all : List ℕ)
        → all ≡ pretty (prefix_tokens other) ++ trace_end JsonPretty false → {n : ℕ}
        → n ≡ length all - 3 → n ≡ length (pretty (prefix_tokens other))
    prefix_long other all is {n} h =
        let long =
        ap length is ∙ length-append (pretty (prefix_tokens other)) (trace_end JsonPretty false) in
        omega (arith, long, h)
