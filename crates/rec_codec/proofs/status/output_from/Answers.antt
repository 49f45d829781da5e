use Rattle.std.proofs.Common.{refl}
use Rattle.rec_codec.proofs.Refusals.{at_first}
use Rattle.rec_codec.proofs.status.output_from.Goals as goal
use Rattle.rec_codec.specs.Status.{output_case_form}

pub returns-in-Err : goal.returns-in-Err
unfolding output_case_form
returns-in-Err g c =
    rw (← c.in-Some.ensures, c.in_ok-result.ensures.0) (at_first _ _ _ c.in-Err.ensures)

pub returns : goal.returns
unfolding output_case_form
returns g c =
    rw (← c.in-Some.ensures, c.in_ok-result.ensures.0, c.in-Ok.ensures, c.in_ok-result.ensures.1)
    refl
