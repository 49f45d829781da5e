use Rattle.std.proofs.Common.{◌≡◌, ◌⊎◌, [], List, Option, Ok, Err, ap, ◌∙◌, subst}
use Rattle.rec_format.specs.declared.rerun.RerunInfo.{RerunInfo}
use Rattle.rec_codec.specs.Lines.{NumberedLine}
use Rattle.rec_rerun.specs.Selection.{HasTaken, root_of}
use Rattle.rec_errors.specs.declared.reading_error.ReadingError.TheVariants.{OutOfMemory}
use Rattle.rec_reading.proofs.rerun.select.Goals as goal
use Rattle.rec_reading.specs.LogEvents.{events_of}

pub returns-in-Err : goal.returns-in-Err
returns-in-Err c =
    let error = c.in-Err.error in
    subst (λ (ls : List NumberedLine). (error ≡ OutOfMemory) ⊎ (events_of ls ≡ Err error))
    c.events.ensures c.in-Err.ensures

pub returns : goal.returns
returns c =
    let tested = c.args.tested.now in
    let taken = c.in_default.ensures in
    let selected = c.in_ok-info.ensures in
    let begun = subst
    (λ (parent : Option RerunInfo). HasTaken parent [] c.in_ok-selector.selector.standings.tests)
    c.as_ref.ensures.value c.in_ok-selector.ensures in
    let has = taken.2 tested.parent begun in (
      taken.0,
      subst (λ (ls : List NumberedLine). events_of ls ≡ Ok taken.0) c.events.ensures taken.1,
      record {
        parent_run = selected.parent_run;
        root =
            selected.root ∙ ap (root_of c.args.run_id tested.build_scope) c.as_ref-2.ensures.value;
        selected = selected.selected tested.parent taken.0 has;
        apart = selected.apart;
        recorded = selected.recorded tested.parent taken.0 has;
      },
    )
