use Rattle.std.proofs.Common.{◌≡◌, ◌∙◌, ap, arith, of_z, to_z}
use Rattle.std.proofs.lemmas.Int.{to_z-of_z}
use Rattle.std.specs.Int.{w128}
use Rattle.rec_view.proofs.instants.Instants.active.Goals as goal
use Rattle.rec_view.proofs.InstantsTold.{read_i64}
use Rattle.rec_view.proofs.Slices.{all_slices_total}
use Rattle.rec_view.specs.Instants.{time_of_slices}
use Rattle.rec_view.specs.Slices.{active}

pub returns : goal.returns
returns c = λ history a z has are.
    let whole : to_z w128 (of_z w128 c.time_of-time.result) ≡ c.time_of-time.result =
    grind (arith, to_z-of_z) in
    c.ok.ensures.value
    ∙ read_i64 c.try_from.result _ (active history a z) c.try_from.ensures
    (whole ∙ c.time_of-time.ensures history has ∙ ap (time_of_slices history) are
    ∙ all_slices_total history a z)
