use Rattle.std.proofs.Common.{◌≡◌, ◌⊎◌, ◌<◌, ◌^◌, ℕ, List, length}
use Rattle.std.proofs.Common.{map, Option, Some, ◌∙◌, ap, subst, sym}
use Rattle.std.proofs.lemmas.Result.{err_from_is_err_and}
use Rattle.std.specs.Option.{option_map}
use Rattle.rec_container.specs.Container.{spell}
use Rattle.rec_format.specs.declared.sizes.RecordedSizes.{RecordedSizes}
use Rattle.rec_store.proofs.ReadLaws.{bundle_reads_logged}
use Rattle.rec_store.specs.Entries.{bundle_entries}
use Rattle.rec_store.specs.Reading.{IsReading, recorded}
use Rattle.rec_spans.specs.Plain.{plain}
use Rattle.rec_errors.specs.declared.export_error.RecordExportError.TheVariants.{OutOfMemory}
use Rattle.rec_errors.specs.declared.export_error.RecordExportError.{RecordExportError}
use Rattle.rec_errors.specs.TraceFaults.{trace_fault}
use Rattle.rec_export.proofs.Bundles.{same_entries, same_judged}
use Rattle.rec_export.proofs.Judging.{refused_sizes, trace_left}
use Rattle.rec_export.proofs.prepare.prepare_run.Goals as goal
use Rattle.rec_export.specs.Session.{events_of}
use Rattle.rec_export.specs.SessionTraces.{run_trace}

pub returns-in-Err-clause-err : goal.returns-in-Err-clause-err
returns-in-Err-clause-err g c =
    let number = g.N.OutputNamer.number c.args.namer.now in
    let settings = c.args.settings.now in
    let events = events_of c.args.lines in
    let run = c.in_ok-run.ensures in
    let e = c.in-Err.error in
    let same =
    same_judged number settings c.args.head.now events c.in_ok-run.run'.sizes run.run.sized
    c.bytes.result.now (spell c.in_ok-run.run'.store.entries) c.in_ok-run.run'.too_large
    (c.bytes.ensures ∙ run.run.log_written) (ap spell run.run.stored) run.too_large in
    refused_sizes number settings c.args.head.now c.args.lines e run.valid
    (subst (λ (o : Option RecordExportError). (e ≡ OutOfMemory) ⊎ (o ≡ Some e)) same
    c.in-Err.ensures.judged)

pub returns-clause-bundle : goal.returns-clause-bundle
returns-clause-bundle g c =
    let number = g.N.OutputNamer.number c.args.namer.now in
    let run = c.in_ok-run.ensures.run in
    ap spell
    (same_entries number c.args.settings.now.max_output c.args.head.now (events_of c.args.lines)
    c.in_ok-run.run'.sizes c.in-Ok.manifest.text.items run.sized c.in-Ok.ensures.text
    c.in_ok-run.run'.log.bytes (spell c.in_ok-run.run'.store.entries) run.log_written
    (ap spell run.stored))

pub returns-clause-reads : goal.returns-clause-reads
returns-clause-reads g c = λ is_head.
    let number = g.N.OutputNamer.number c.args.namer.now in
    let m = c.args.settings.now.max_output in
    let events = events_of c.args.lines in
    let run = c.in_ok-run.ensures.run in
    let same = ap spell (same_entries number m c.args.head.now events c.in_ok-run.run'.sizes
    c.in-Ok.manifest.text.items run.sized c.in-Ok.ensures.text
    c.in_ok-run.run'.log.bytes (spell c.in_ok-run.run'.store.entries) run.log_written
    (ap spell run.stored)) in
    let fits = subst (λ (b : List ℕ). length b < 2 ^ 64) same
    (subst (λ (b : List ℕ). length b < 2 ^ 64)
    (ap (λ l. spell (bundle_entries c.in-Ok.manifest.text.items l
    (spell c.in_ok-run.run'.store.entries))) c.bytes.ensures) c.in-Ok.ensures.fits) in
    subst (λ (b : List ℕ). IsReading b (recorded number m c.args.head.now events)) (sym same)
    (bundle_reads_logged number m c.args.head.now events is_head run.recorded.logged
    run.recorded.distinct fits)

pub returns-clause-events : goal.returns-clause-events
returns-clause-events g c = ap (λ (z : RecordedSizes). z.log.entries) c.in_ok-run.ensures.run.sized

pub returns-clause-valid : goal.returns-clause-valid
returns-clause-valid g c =
    let number = g.N.OutputNamer.number c.args.namer.now in
    let settings = c.args.settings.now in
    let events = events_of c.args.lines in
    let run = c.in_ok-run.ensures in
    let same =
    same_judged number settings c.args.head.now events c.in_ok-run.run'.sizes run.run.sized
    c.bytes.result.now (spell c.in_ok-run.run'.store.entries) c.in_ok-run.run'.too_large
    (c.bytes.ensures ∙ run.run.log_written) (ap spell run.run.stored) run.too_large in
    let traced =
    c.in_ok-trace.ensures settings.message_format settings.group_by c.args.head.now.nextest_version
    (map plain events) run.traced in
    trace_left number settings c.args.head.now c.args.lines run.valid
    (sym same ∙ c.in-Ok.ensures.judged)
    ∙ ap (option_map trace_fault) traced.0

pub returns-in_err-trace-clause-err : goal.returns-in_err-trace-clause-err
returns-in_err-trace-clause-err g c =
    let number = g.N.OutputNamer.number c.args.namer.now in
    let settings = c.args.settings.now in
    let events = events_of c.args.lines in
    let run = c.in_ok-run.ensures in
    let same =
    same_judged number settings c.args.head.now events c.in_ok-run.run'.sizes run.run.sized
    c.bytes.result.now (spell c.in_ok-run.run'.store.entries) c.in_ok-run.run'.too_large
    (c.bytes.ensures ∙ run.run.log_written) (ap spell run.run.stored) run.too_large in
    let left = trace_left number settings c.args.head.now c.args.lines run.valid
    (sym same ∙ c.in-Ok.ensures.judged) in
    let e = c.in_err-trace.field-0.0 in
    let refused =
    c.in_err-trace.ensures settings.message_format settings.group_by c.args.head.now.nextest_version
    (map plain events) run.traced in
    let p = err_from_is_err_and c.from_residual-in_err-trace.result
    c.from_residual-in_err-trace.ensures.1 in
    rw (p.1, p.2)
    (subst (λ (o : Option RecordExportError). (e ≡ OutOfMemory) ⊎ (o ≡ Some e)) (sym left) refused)

pub returns-clause-trace : goal.returns-clause-trace
unfolding run_trace
returns-clause-trace g c =
    let settings = c.args.settings.now in
    (c.in_ok-trace.ensures settings.message_format settings.group_by c.args.head.now.nextest_version
    (map plain (events_of c.args.lines)) c.in_ok-run.ensures.traced).1

pub returns-clause-printed : goal.returns-clause-printed
returns-clause-printed g c =
    let settings = c.args.settings.now in
    (c.in_ok-trace.ensures settings.message_format settings.group_by c.args.head.now.nextest_version
    (map plain (events_of c.args.lines)) c.in_ok-run.ensures.traced).2

pub returns-clause-accepted : goal.returns-clause-accepted
returns-clause-accepted g c =
    let settings = c.args.settings.now in
    (c.in_ok-trace.ensures settings.message_format settings.group_by c.args.head.now.nextest_version
    (map plain (events_of c.args.lines)) c.in_ok-run.ensures.traced).0
