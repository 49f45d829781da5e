use Rattle.std.specs.Prelude.{refl}
use Rattle.rec_forms.proofs.run_ends.StressRunStatsForm.from_node.Goals as goal
use Rattle.rec_forms.specs.RunEnds.{stress_run_stats_form}

pub returns : goal.returns
unfolding stress_run_stats_form
returns c =
    let fields = c.in_ok-completed.ensures in
    record { read_node = rw (← c.in-Some.ensures, fields.0, fields.1, fields.2, fields.3) refl }
