use Rattle.std.proofs.Common.{◌≡◌, ◌∷◌, ◌∙◌, rules}
use Rattle.std.specs.Vec.Iter.{into_iter_items}
use Rattle.rec_salvage.proofs.GatheredLines.{path_more}
use Rattle.rec_salvage.proofs.gathering.add_paths.Goals as goal

pub loop-path-preserved : goal.loop-path-preserved
loop-path-preserved c =
    let all = into_iter_items c.loop-path.path-iterator in
    let rest = into_iter_items c.next.new.self in
    let step : all ≡ c.in-Some.path ∷ rest = search rules in
    λ path. path_more c.loop-path.set c.insert.new.self c.in-Some.path rest all
    c.in_ok-insert.ensures.updates step path
    ∙ c.loop-path.invariant path
