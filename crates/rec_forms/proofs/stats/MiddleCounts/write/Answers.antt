use Rattle.rec_forms.proofs.stats.MiddleCounts.write.Goals as goal
use Rattle.rec_forms.proofs.Writing.{◌▸◌, saying}

pub returns : goal.returns
returns c =
    saying
    (λ k. record {
      initial_run_count = k.0;
      leaky = k.1.0;
      leaky_failed = k.1.1.0;
      passed = k.1.1.1.0;
      passed_slow = k.1.1.1.1.0;
      passed_timed_out = k.1.1.1.1.1;
    })
    (c.field-object.ensures ▸ c.field-object-2.ensures ▸ c.field-object-3.ensures ▸
    c.field-object-4.ensures ▸ c.field-object-5.ensures ▸ c.field.ensures)
