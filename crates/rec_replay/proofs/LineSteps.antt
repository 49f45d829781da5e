-- Texts that are put at the end of a line, one after the other.
use Rattle.std.proofs.Common.{ℕ, List, ◌++◌, ap, ◌∙◌, append_assoc}
use Rattle.rec_replay.specs.declared.lines.Line.{Line}
use Rattle.rec_replay.specs.LinePieces.{Puts}

module _ {a b : Line} {s : List ℕ} where
  -- a text after another
  infixl 40 ◌▸◌
  pub ◌▸◌ : {c : Line} {t : List ℕ} → Puts a b s → Puts b c t → Puts a c (s ++ t)
  ◌▸◌ {t = t} first second = record {
    goes = λ ok. first.goes (second.goes ok);
    written =
        λ ok. second.written ok ∙ ap (λ line. line ++ t) (first.written (second.goes ok))
        ∙ append_assoc a.text.items s t;
  }
