use Rattle.std.proofs.Common.{◌≡◌, ◌∷◌, ◌∙◌, Some, sym, ap, rules}
use Rattle.std.specs.Prelude.{if◌then◌else◌}
use Rattle.rec_events.specs.Tests.{is_named}
use Rattle.rec_rerun.proofs.StandingMaps.{noted}
use Rattle.rec_rerun.proofs.standings.Standings.note.Goals as goal
use Rattle.rec_rerun.specs.declared.standings.Standing.TheVariants.{Known}
use Rattle.rec_rerun.specs.Standings.{at}
use Rattle.rec_rerun.specs.Suites.{holds, names_of}

pub loop-suite-preserved : goal.loop-suite-preserved
loop-suite-preserved c = λ t.
    let step : c.loop-suite.suite-iterator ≡ c.in-Some.suite.now ∷ c.next.new.self = search rules in
    let suite = c.in-Some.suite.now in
    let known = Some (Known c.args.passed) in
    let old = at c.loop-suite.self.tests t in
    let taken = c.in_ok-note_names.ensures.ok t
    ∙ ap (λ id. if is_named id c.names_of.result.now t then known else old) c.as_str.ensures.value
    ∙ ap (λ ns. if is_named suite.binary_id ns t then known else old) c.names_of.ensures in
    noted (is_named suite.binary_id (names_of c.args.passed suite) t)
    (holds c.args.passed c.next.new.self t) known _ old taken
    ∙ ap (λ ss. if holds c.args.passed ss t then known else old) (sym step)
    ∙ c.loop-suite.invariant t
