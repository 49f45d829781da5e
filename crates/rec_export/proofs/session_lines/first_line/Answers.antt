use Rattle.std.proofs.Common.{◌+◌, ◌∙◌, ◌∷◌, ℕ, List, length, take, sym, ap, arith}
use Rattle.rec_codec.proofs.LineLemmas.{lines_found, lines_missing}
use Rattle.rec_codec.specs.Lines.{lines}
use Rattle.rec_export.proofs.LineBlocks.{found_inside, slice_from}
use Rattle.rec_export.proofs.session_lines.first_line.Goals as goal

pub returns-in-Some : goal.returns-in-Some
returns-in-Some c =
    let text = c.args.text.now in
    let end = c.in-Some.end in
    record {
      first =
          lines_found text end (sym c.in-Some.ensures)
          ∙ ap (λ (l : List ℕ). take end text ∷ lines l) (slice_from text (end + 1));
      some = omega arith;
      inside = found_inside text end (sym c.in-Some.ensures);
    }

pub returns-in-None : goal.returns-in-None
returns-in-None c =
    let text = c.args.text.now in
    record {
      first =
          lines_missing text (sym c.in-None.ensures) c.requires
          ∙ ap (λ (l : List ℕ). text ∷ lines l) (slice_from text (length text));
      some = c.requires;
      inside = omega arith;
    }
