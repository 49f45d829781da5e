use Rattle.std.proofs.Common.{◌∙◌, Some, false, sym, ap, option_map}
use Rattle.std.specs.Option.{option_copied}
use Rattle.std.specs.Prelude.{if◌then◌else◌}
use Rattle.rec_rerun.proofs.selection.known_standings.Goals as goal
use Rattle.rec_rerun.proofs.StandingMaps.{both_noted}
use Rattle.rec_rerun.specs.declared.standings.Standing.TheVariants.{Known}
use Rattle.rec_rerun.specs.Selection.{known_in}
use Rattle.rec_rerun.specs.Suites.{has_outstanding, has_passing}

pub returns : goal.returns
returns c = λ t.
    let suites = c.in-Some.info.now.test_suites in
    both_noted (has_passing suites t) (has_outstanding suites t) _ _ (c.in_ok-note-2.ensures.ok t)
    (c.in_ok-note.ensures.ok t ∙ ap
    (λ o. if has_outstanding suites t then Some (Known false) else o) (c.new-standings.ensures t))
    ∙ ap (λ p. option_map Known (known_in (option_copied p) t)) (sym c.in-Some.is)
