use Rattle.std.proofs.Common.{◌∙◌, ap, map, subst}
use Rattle.rec_view.proofs.view.view_events.Goals as goal
use Rattle.rec_view.proofs.Walks.{verdicts_are}
use Rattle.rec_view.specs.Acts.{acts}
use Rattle.rec_view.specs.Counts.{AreCounts}
use Rattle.rec_view.specs.declared.test_views.TestView.{TestView}

pub returns-clause-counts : goal.returns-clause-counts
returns-clause-counts g c =
    subst (λ vs. AreCounts vs c.counts_of-counts.result)
    (ap (map (λ (test : TestView). test.verdict)) c.as_slice.ensures.value
    ∙ verdicts_are (acts c.args.events.now) c.in_ok-walk.walk.tests.items
    c.in_ok-walk.ensures.rows)
    c.counts_of-counts.ensures
