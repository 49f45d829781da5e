use Rattle.std.proofs.Common.{[], ◌∷◌, ◌∙◌, Some, IfOk, ap, codes, subst}
use Rattle.std.specs.Prelude.{⊤}
use Rattle.rec_forms.specs.ObjectWriting.{Writes}
use Rattle.rec_view.specs.Acts.{acts}
use Rattle.rec_view.specs.Rows.{row_of, rows, rows_of}
use Rattle.rec_view_json.proofs.Fitting.{tests_fit, values_of_seen}
use Rattle.rec_view_json.proofs.view.with_tests.Goals as goal
use Rattle.rec_view_json.specs.Views.{test_value}

pub with_list-requires : goal.with_list-requires
with_list-requires c =
    tests_fit c.args.events.now c.args.gaps.now c.args.instants.now c.requires.gaps
    c.requires.instants c.as_slice.result.now
    (ap rows c.as_slice.ensures ∙ c.requires.tests)

pub returns : goal.returns
returns c =
    let events = c.args.events.now in
    subst
    (λ d. IfOk c.with_list.result (λ w. Writes c.args.object c.args.text.now w c.with_list.new.text
    ((codes "tests", Some d) ∷ []) ⊤))
    (values_of_seen (test_value events) row_of c.as_slice.result.now (rows_of (acts events))
    (ap rows c.as_slice.ensures ∙ c.requires.tests))
    c.with_list.ensures
