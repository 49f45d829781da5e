use Rattle.std.proofs.Common.{◌≡◌, ◌∙◌, ◌-◌, ap, arith, get_or, length, min, of_z, pos, to_z}
use Rattle.std.proofs.lemmas.Int.{to_z-of_z}
use Rattle.std.specs.Int.{w64}
use Rattle.std.specs.Option.{unwrap_or}
use Rattle.rec_view.proofs.instants.Instants.moment.Goals as goal
use Rattle.rec_view.proofs.InstantsTold.{moment_is}

pub returns : goal.returns
returns c = λ history has.
    let micros = c.args.self.now.micros in
    let index = c.min-index.result in
    let a = c.len.ensures in
    let b = micros.ok.0 in
    let many : c.len.result ≡ length micros.items = cc in
    let whole : to_z w64 (of_z w64 c.unwrap_or.result) ≡ c.unwrap_or.result =
    grind (arith, to_z-of_z) in
    whole
    ∙ moment_is history micros.items c.args.at index c.unwrap_or.result has.micros
    (c.min-index.ensures ∙ ap (min c.args.at)
    (c.saturating_sub.ensures ∙ ap (λ n. n - 1) many))
    (c.unwrap_or.ensures ∙ ap (λ o. unwrap_or o (pos 0)) c.copied-instant.ensures
    ∙ c.get.ensures.lookup.4 (omega arith) (pos 0)
    ∙ ap (λ xs. get_or xs index (pos 0)) c.deref.ensures.value)
