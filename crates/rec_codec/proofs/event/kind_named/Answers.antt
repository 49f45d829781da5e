use Rattle.std.proofs.Common.{refl}
use Rattle.std.proofs.lemmas.Result.{err_from_is_err_and}
use Rattle.rec_json.specs.Nodes.{members_view}
use Rattle.rec_codec.proofs.event.kind_named.Goals as goal
use Rattle.rec_codec.proofs.KindTables.{core_named, refused}
use Rattle.rec_codec.proofs.Refusals.{at_first}
use Rattle.rec_codec.specs.CoreKindForms.{core_kinds, kind_in}
use Rattle.rec_codec.specs.EventForms.{kind_named}

pub returns-in_err-core_from-in_default : goal.returns-in_err-core_from-in_default
returns-in_err-core_from-in_default g c =
    let p = err_from_is_err_and c.from_residual-in_err-core_from-in_default.result
    c.from_residual-in_err-core_from-in_default.ensures.1 in
    let ms = members_view c.args.object.now in
    rw (
      p.1,
      p.2,
      core_named {S = g.row.S.Denot} g.S.OutputForm.output_form ms c.args.name.now
          c.in_default.not-text c.in_default.not-text-2 c.in_default.not-text-3,
    )
    (refused g.row.S.Denot _ _ (kind_in core_kinds c.args.name.now ms)
    c.in_err-core_from-in_default.ensures)

pub returns-in_ok-core_from-in_default : goal.returns-in_ok-core_from-in_default
returns-in_ok-core_from-in_default g c =
    rw (
      core_named {S = g.row.S.Denot} g.S.OutputForm.output_form (members_view c.args.object.now)
          c.args.name.now c.in_default.not-text c.in_default.not-text-2 c.in_default.not-text-3,
      c.in_ok-core_from-in_default.ensures,
    ) refl

pub returns-in_err-script_finished_from-in-text : goal.returns-in_err-script_finished_from-in-text
unfolding kind_named
returns-in_err-script_finished_from-in-text g c =
    let p = err_from_is_err_and c.from_residual.result c.from_residual.ensures.1 in
    rw (p.1, p.2, c.in-text.is) (at_first _ _ _ c.in_err-script_finished_from-in-text.ensures)

pub returns-in_ok-script_finished_from-in-text : goal.returns-in_ok-script_finished_from-in-text
unfolding kind_named
returns-in_ok-script_finished_from-in-text g c =
    rw (c.in-text.is, c.in_ok-script_finished_from-in-text.ensures) refl

pub returns-in_err-attempt_failed_from-in-text-2 : goal.returns-in_err-attempt_failed_from-in-text-2
unfolding kind_named
returns-in_err-attempt_failed_from-in-text-2 g c =
    let p = err_from_is_err_and c.from_residual-in_err-attempt_failed_from-in-text-2.result
    c.from_residual-in_err-attempt_failed_from-in-text-2.ensures.1 in
    rw (p.1, p.2, c.in-text-2.is) (at_first _ _ _ c.in_err-attempt_failed_from-in-text-2.ensures)

pub returns-in_ok-attempt_failed_from-in-text-2 : goal.returns-in_ok-attempt_failed_from-in-text-2
unfolding kind_named
returns-in_ok-attempt_failed_from-in-text-2 g c =
    rw (c.in-text-2.is, c.in_ok-attempt_failed_from-in-text-2.ensures) refl

pub returns-in_err-test_finished_from-in-text-3 : goal.returns-in_err-test_finished_from-in-text-3
unfolding kind_named
returns-in_err-test_finished_from-in-text-3 g c =
    let p = err_from_is_err_and c.from_residual-in_err-test_finished_from-in-text-3.result
    c.from_residual-in_err-test_finished_from-in-text-3.ensures.1 in
    rw (p.1, p.2, c.in-text-3.is) (at_first _ _ _ c.in_err-test_finished_from-in-text-3.ensures)

pub returns-in_ok-test_finished_from-in-text-3 : goal.returns-in_ok-test_finished_from-in-text-3
unfolding kind_named
returns-in_ok-test_finished_from-in-text-3 g c =
    rw (c.in-text-3.is, c.in_ok-test_finished_from-in-text-3.ensures) refl
