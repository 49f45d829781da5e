use Rattle.std.specs.Option.{option_copied}
use Rattle.rec_rerun.proofs.selection.select_rerun.Goals as goal

pub returns-clause-selected : goal.returns-clause-selected
returns-clause-selected c =
    let parent = option_copied c.args.parent in
    c.select.ensures.selected parent c.args.events.now
    (c.in-Ok.ensures parent c.in_ok-selector.ensures)

pub returns-clause-recorded : goal.returns-clause-recorded
returns-clause-recorded c =
    let parent = option_copied c.args.parent in
    c.select.ensures.recorded parent c.args.events.now
    (c.in-Ok.ensures parent c.in_ok-selector.ensures)
