use Rattle.std.proofs.Common.{[]}
use Rattle.std.proofs.lemmas.Result.{err_from_is_err_and}
use Rattle.rec_errors.specs.ReadingErrors.{bundle_error}
use Rattle.rec_program.proofs.BundlesShown.{opened_shows, opened_withholds, unopened}
use Rattle.rec_program.proofs.reading.read_bundle.Goals as goal

pub returns-in_err-bundle-clause-err : goal.returns-in_err-bundle-clause-err
returns-in_err-bundle-clause-err g c =
    let settings = c.args.settings.now in
    let prints = g.P.BundleText.prints c.args.printer.now in
    let p = err_from_is_err_and c.from_residual.result c.from_residual.ensures.1 in
    rw (p.1, p.2)
    (unopened bundle_error prints settings.read_limit g.S.Source.left g.S.Source.faults
    settings.session_limit c.args.source.now c.open_bundle.new.source _ c.in_err-bundle.ensures.err)

pub returns-clause-ok : goal.returns-clause-ok
returns-clause-ok g c =
    let settings = c.args.settings.now in
    opened_shows (g.P.BundleText.prints c.args.printer.now)
    settings.read_limit g.S.Source.left g.S.Source.faults settings.session_limit c.args.source.now
    c.open_bundle.new.source [] c.in_ok-bundle.bundle c.in_ok-bundle.ensures.ok
    c.text.result c.text.ensures

pub returns-clause-err : goal.returns-clause-err
returns-clause-err g c =
    let settings = c.args.settings.now in
    opened_withholds (g.P.BundleText.prints c.args.printer.now)
    settings.read_limit g.S.Source.left g.S.Source.faults settings.session_limit c.args.source.now
    c.open_bundle.new.source [] c.in_ok-bundle.bundle c.in_ok-bundle.ensures.ok
    c.text.result c.text.ensures
