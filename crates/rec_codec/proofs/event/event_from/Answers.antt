use Rattle.std.proofs.Common.{refl}
use Rattle.std.proofs.lemmas.Result.{err_from_is_err_and}
use Rattle.rec_codec.proofs.event.event_from.Goals as goal
use Rattle.rec_codec.proofs.Refusals.{at_first, at_two}
use Rattle.rec_codec.specs.EventForms.{event_form}

pub returns-in_err-timestamp : goal.returns-in_err-timestamp
unfolding event_form
returns-in_err-timestamp g c =
    let p = err_from_is_err_and c.from_residual.result c.from_residual.ensures.1 in
    rw (p.1, p.2, ← c.in-Some.ensures) (at_two _ _ _ _ c.in_err-timestamp.ensures)

pub returns-in_err-kind : goal.returns-in_err-kind
unfolding event_form
returns-in_err-kind g c =
    let p =
    err_from_is_err_and c.from_residual-in_err-kind.result c.from_residual-in_err-kind.ensures.1 in
    rw (p.1, p.2, ← c.in-Some.ensures, c.in_ok-timestamp.ensures.0, c.in_ok-timestamp.ensures.1)
    (at_first _ _ _ c.in_err-kind.ensures)

pub returns : goal.returns
unfolding event_form
returns g c = rw (
  ← c.in-Some.ensures,
  c.in_ok-timestamp.ensures.0,
  c.in_ok-timestamp.ensures.1,
  c.in_ok-kind.ensures,
) refl
