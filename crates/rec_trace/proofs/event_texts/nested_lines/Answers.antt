use Rattle.std.proofs.Common.{◌≡◌, [], ◌∷◌, ◌++◌, ap, ◌∙◌, subst, sym}
use Rattle.json.specs.Layout.{pretty}
use Rattle.json.specs.Lex.{tokens}
use Rattle.json.specs.Print.{ArePrintable}
use Rattle.json.specs.Token.{begin_array}
use Rattle.json.specs.Tree.{json_tokens}
use Rattle.serde_json.specs.Written.{outline}
use Rattle.rec_trace_events.specs.EventTexts.{event_value}
use Rattle.rec_trace.proofs.event_texts.nested_lines.Goals as goal
use Rattle.rec_trace.proofs.TraceTexts.{printable-compact, tokens-compact}

pub returns : goal.returns
returns c =
    let d = event_value c.args.event.now in
    let read : c.in_ok-reader.reader ≡ tokens c.as_str.result.now = c.in_ok-reader.ensures.ok in
    let is : c.in_ok-reader.reader ≡ json_tokens (outline d) =
    read ∙ ap tokens c.as_str.ensures.text ∙ tokens-compact d c.as_str.ensures.writable in
    let printable = subst ArePrintable (sym (read ∙ ap tokens c.as_str.ensures.text))
    (printable-compact d c.as_str.ensures.writable) in
    let first = c.in_ok-token.ensures.ok ∙ ap (λ ts. ts ++ begin_array ∷ []) c.new-lines.ensures in
    let second = c.in_ok-token-2.ensures.ok ∙ ap (λ ts. ts ++ begin_array ∷ []) first in
    c.into_inner.ensures.layout ∙ ap pretty (c.in_ok-write_tokens.ensures printable
    ∙ ap (λ ts. ts ++ c.in_ok-reader.reader) second ∙ ap (λ ts. begin_array ∷ begin_array ∷ ts) is)
