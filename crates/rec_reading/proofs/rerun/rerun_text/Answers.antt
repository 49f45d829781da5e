use Rattle.std.proofs.Common.{subst}
use Rattle.rec_events.specs.declared.recording.TestListSummary.{TestListSummary}
use Rattle.rec_reading.proofs.rerun.rerun_text.Goals as goal
use Rattle.rec_reading.specs.Reruns.{PrintsPlan}

pub returns : goal.returns
returns c = λ es is.
    let selected = c.in_ok-selected.ensures es is in
    let info = c.in_ok-selected.selected.info in (
      selected.0,
      selected.1,
      (
        info,
        selected.2,
        subst (λ (tests : TestListSummary). PrintsPlan info tests c.in_ok-plan_text.field-0.items)
            selected.3 (c.in_ok-plan_text.ensures selected.2.apart),
      ),
    )
