use Rattle.rec_forms.proofs.stats.LastCounts.write.Goals as goal
use Rattle.rec_forms.proofs.Writing.{◌▸◌, saying}

pub returns : goal.returns
returns c =
    saying
    (λ k. record {
      setup_scripts_exec_failed = k.0;
      setup_scripts_failed = k.1.0;
      setup_scripts_finished_count = k.1.1.0;
      setup_scripts_initial_count = k.1.1.1.0;
      setup_scripts_passed = k.1.1.1.1.0;
      setup_scripts_timed_out = k.1.1.1.1.1.0;
      skipped = k.1.1.1.1.1.1;
    })
    (c.field-object.ensures ▸ c.field-object-2.ensures ▸ c.field-object-3.ensures ▸
    c.field-object-4.ensures ▸ c.field-object-5.ensures ▸ c.field-object-6.ensures ▸
    c.field.ensures)
