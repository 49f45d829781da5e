use Rattle.std.proofs.Common.{◌≡◌, ◌∷◌, ◌∙◌, Some, sym, ap, rules}
use Rattle.std.specs.Prelude.{if◌then◌else◌}
use Rattle.rec_events.specs.Names.{texts}
use Rattle.rec_events.specs.Tests.{is_named}
use Rattle.rec_rerun.proofs.StandingMaps.{noted}
use Rattle.rec_rerun.proofs.standings.Standings.note_names.Goals as goal
use Rattle.rec_rerun.specs.declared.standings.Standing.TheVariants.{Known}
use Rattle.rec_rerun.specs.Standings.{at}

pub loop-name-preserved : goal.loop-name-preserved
loop-name-preserved c = λ t.
    let step : texts c.loop-name.name-iterator ≡ c.as_str.result.now ∷ texts c.next.new.self =
    search rules in
    noted _ (is_named c.args.binary.now (texts c.next.new.self) t) (Some (Known c.args.passed)) _
    (at c.loop-name.self.tests t) (c.in_ok-put.ensures.ok t)
    ∙ ap (λ ns. if is_named c.args.binary.now ns t then Some (Known c.args.passed)
    else at c.loop-name.self.tests t)
    (sym step)
    ∙ c.loop-name.invariant t
