use Rattle.std.proofs.Common.{◌≡◌, ap, ◌∙◌, ℕ, List, [], ◌++◌, codes, append_assoc}
use Rattle.std.specs.Fmt.{decimal}
use Rattle.rec_store.proofs.cut.join_around.Goals as goal

-- five pieces, one after the other
joined : (p s d e t v0 v1 v2 v3 v4 v5 : List ℕ) → v0 ≡ [] → v1 ≡ v0 ++ p → v2 ≡ v1 ++ s
    → v3 ≡ v2 ++ d → v4 ≡ v3 ++ e → v5 ≡ v4 ++ t
    → v5 ≡ p ++ (s ++ (d ++ e) ++ t)
joined p s d e t v0 v1 v2 v3 v4 v5 e0 e1 e2 e3 e4 e5 =
    e5 ∙ ap (λ x. x ++ t) (e4
    ∙ ap (λ x. x ++ e) (e3 ∙ ap (λ x. x ++ d) (e2 ∙ ap (λ x. x ++ s) (e1 ∙ ap (λ x. x ++ p) e0))))
    ∙ ap (λ x. x ++ t) (ap (λ x. x ++ e) (append_assoc p s d) ∙ append_assoc p (s ++ d) e
    ∙ ap (λ x. p ++ x) (append_assoc s d e))
    ∙ append_assoc p (s ++ (d ++ e)) t

pub returns : goal.returns
returns c =
    λ n written. joined c.args.prefix.now (codes "\n\n... [truncated ") (decimal n)
    (codes " bytes] ...\n\n") c.args.suffix.now
    c.in_ok-bytes.bytes.items c.extend_from_slice.new.self.items
    c.extend_from_slice-2.new.self.items
    c.extend_from_slice-3.new.self.items c.extend_from_slice-4.new.self.items
    c.extend_from_slice-5.new.self.items
    c.in_ok-bytes.ensures.items c.in_ok-extend_from_slice.ensures.items
    c.in_ok-extend_from_slice-2.ensures.items
    (c.in_ok-extend_from_slice-3.ensures.items
    ∙ ap (λ d. c.extend_from_slice-2.new.self.items ++ d) written)
    c.in_ok-extend_from_slice-4.ensures.items c.in_ok-extend_from_slice-5.ensures.items
