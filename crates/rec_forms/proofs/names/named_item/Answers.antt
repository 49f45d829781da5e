use Rattle.std.proofs.Common.{◌≡◌, ◌+◌, ◌∷◌, ℕ, List, false, sym, ◌∙◌, ap, drop, refl}
use Rattle.std.proofs.lemmas.List.{drop_more}
use Rattle.std.specs.Borrow.{Bor}
use Rattle.std.specs.Str.{bytes_eq}
use Rattle.rec_forms.proofs.names.named_item.Goals as goal
use Rattle.rec_forms.specs.Shape.{named}
use Rattle.rec_forms.specs.Tables.{table}

-- a row with another name is passed over
passed : {T : Type 0} (rows rest : List (Bor (List ℕ) × T)) (row : Bor (List ℕ) × T) (text : List ℕ)
    → rows ≡ row ∷ rest → bytes_eq text row.0.now ≡ false
    → named (table rows) text ≡ named (table rest) text
passed rows rest row text is differs = rw (is, differs) refl

pub loop-name-preserved : goal.loop-name-preserved
loop-name-preserved g c =
    let rows = c.args.items.now in
    let i = c.loop-name.name-index in
    let row = c.loop-name-item.result in
    let next : drop i rows ≡ row ∷ drop (i + 1) rows = drop_more rows i row c.loop-name-test.true
    ∙ ap (λ r. r ∷ drop (i + 1) rows) (sym c.loop-name-item.is) in
    c.loop-name.invariant ∙ passed (drop i rows) (drop (i + 1) rows) row c.in-Some.text.now next
    (sym c.eq.ensures ∙ c.if-eq.false)
