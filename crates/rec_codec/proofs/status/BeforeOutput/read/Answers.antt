use Rattle.std.proofs.Common.{refl}
use Rattle.rec_codec.proofs.status.BeforeOutput.read.Goals as goal
use Rattle.rec_codec.specs.Status.{before_output_form}

pub returns : goal.returns
unfolding before_output_form
returns c = rw (
  c.in_ok-cpu_time.ensures.0,
  c.in_ok-delay_before_start.ensures.0,
  c.in_ok-delay_before_start.ensures.1,
  c.in_ok-cpu_time.ensures.1,
) refl
