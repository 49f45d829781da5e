use Rattle.rec_forms.proofs.stats.FirstCounts.write.Goals as goal
use Rattle.rec_forms.proofs.Writing.{◌▸◌, saying}

pub returns : goal.returns
returns c =
    saying
    (λ k. record {
      exec_failed = k.0;
      failed = k.1.0;
      failed_slow = k.1.1.0;
      failed_timed_out = k.1.1.1.0;
      finished_count = k.1.1.1.1.0;
      flaky = k.1.1.1.1.1;
    })
    (c.field-object.ensures ▸ c.field-object-2.ensures ▸ c.field-object-3.ensures ▸
    c.field-object-4.ensures ▸ c.field-object-5.ensures ▸ c.field.ensures)
