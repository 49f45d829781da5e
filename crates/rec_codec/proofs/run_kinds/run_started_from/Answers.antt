use Rattle.std.proofs.Common.{refl}
use Rattle.rec_codec.proofs.run_kinds.run_started_from.Goals as goal
use Rattle.rec_codec.specs.CoreKindForms.{run_started_form}

pub returns : goal.returns
unfolding run_started_form
returns c = rw (
  c.in_ok-run_id.ensures.0,
  c.in_ok-run_id.ensures.1,
  c.in_ok-run_id.ensures.2,
  c.in_ok-stress_condition.ensures,
) refl
