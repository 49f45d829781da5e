use Rattle.std.proofs.Common.{length, ap, refl, ◌∙◌, ◌≡◌, List, [], ◌∷◌, suc}
use Rattle.std.specs.Map.{values_of}
use Rattle.rec_spans.proofs.open_spans.OpenSpans.len.Goals as goal
use Rattle.rec_spans.specs.declared.spans.Place.{Place}
use Rattle.rec_spans.specs.declared.spans.Span.{Span}

length-values : (es : List (Place × Span)) → length es ≡ length (values_of es)
length-values [] = refl
length-values (e ∷ es) = ap suc (length-values es)

pub returns : goal.returns
returns c = c.len.ensures.len ∙ length-values c.self.inside.spans.entries ∙ ap length c.self.view_is
