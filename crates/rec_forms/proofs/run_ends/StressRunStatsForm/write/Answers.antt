use Rattle.rec_forms.proofs.run_ends.StressRunStatsForm.write.Goals as goal
use Rattle.rec_forms.proofs.Writing.{◌▸◌, all_written}

pub returns-clause-written : goal.returns-clause-written
returns-clause-written c =
    c.end.ensures.written _ _ (all_written c.begin-object.ensures (c.field-object.ensures ▸
    c.field-object-2.ensures ▸ c.field-object-3.ensures ▸ c.field-object-4.ensures))
