use Rattle.std.proofs.Common.{◌≡◌, ◌+◌, ◌-◌, ◌∙◌, ap, arith, get_or, length, max}
use Rattle.std.specs.Option.{unwrap_or}
use Rattle.rec_view.proofs.GapRuns.{run_of}
use Rattle.rec_view.proofs.shown_gaps.ShownGaps.end_of.Goals as goal

pub returns-clause-is : goal.returns-clause-is
returns-clause-is c = λ are.
    let at = c.args.at in
    let index = c.len.result - 1 - at in
    let a = c.len.ensures in
    let b = c.args.self.now.shown.ok.0 in
    let many : c.len.result ≡ length c.args.self.now.shown.items = cc in
    run_of c.args.self.now.shown.items c.args.self.now.ends.items at index c.max.result are
    c.requires.within (ap (λ n. n - 1 - at) many)
    (c.max.ensures ∙ ap (λ y. max y (at + 1)) (c.unwrap_or.ensures
    ∙ ap (λ o. unwrap_or o at) c.copied-end.ensures ∙ c.get.ensures.lookup.4 (omega arith) at
    ∙ ap (λ xs. get_or xs index at) c.deref.ensures.value))
