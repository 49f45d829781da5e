use Rattle.std.proofs.Common.{subst}
use Rattle.std.specs.Prelude.{IfSome}
use Rattle.rec_forms.proofs.laws.read_items_are_well_formed.Goals as goal

pub returns : goal.returns
returns g c =
    λ d x e. subst (λ o. IfSome o g.T.Form.well_formed) e (g.met.T.Form.reads_well_formed.each d).is
