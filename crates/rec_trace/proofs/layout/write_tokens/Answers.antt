use Rattle.std.proofs.Common.{[], ◌∷◌, ◌++◌, sym, refl, ap, ◌∙◌, subst, append_assoc, append-nil}
use Rattle.json.specs.Print.{ArePrintable}
use Rattle.json.specs.Reads.{token_of}
use Rattle.rec_trace.proofs.layout.write_tokens.Goals as goal
use Rattle.rec_trace.proofs.PrettyTokens.{no-bad}

pub loop-token-init : goal.loop-token-init
loop-token-init c = ([], sym (append-nil c.args.lines.now), refl)

pub loop-token-preserved : goal.loop-token-preserved
loop-token-preserved c =
    let written = c.loop-token.invariant.0 in
    let t = token_of c.in-Some.token in (
      written ++ t ∷ [],
      c.in_ok-token.ensures.ok ∙ ap (λ ts. ts ++ t ∷ []) c.loop-token.invariant.1
          ∙ append_assoc c.args.lines.now written (t ∷ []),
      c.loop-token.invariant.2 ∙ ap (λ ts. written ++ ts) c.in-Some.ensures.value
          ∙ sym (append_assoc written (t ∷ []) c.next.new.self),
    )

pub returns-in-Bad : goal.returns-in-Bad
returns-in-Bad c = λ printable.
    absurd
    (no-bad c.loop-token.invariant.0 c.next.new.self (subst ArePrintable (c.loop-token.invariant.2
    ∙ ap (λ ts. c.loop-token.invariant.0 ++ ts)
    (c.in-Some.ensures.value ∙ ap (λ t. token_of t ∷ c.next.new.self) c.in-Bad.is)) printable))

pub returns : goal.returns
returns c = λ printable.
    c.loop-token.invariant.1 ∙ ap (λ ts. c.args.lines.now ++ ts)
    (sym (c.loop-token.invariant.2 ∙ ap (λ ts. c.loop-token.invariant.0 ++ ts)
    c.in_default.ensures.value.0 ∙ append-nil c.loop-token.invariant.0))
