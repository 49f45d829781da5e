use Rattle.rec_forms.proofs.instances.TestSlotAssignmentForm.write.Goals as goal
use Rattle.rec_forms.proofs.Writing.{◌▸◌, all_written}

pub returns-clause-written : goal.returns-clause-written
returns-clause-written c =
    c.end.ensures.written _ _ (all_written c.begin-object.ensures
    (c.field-object.ensures ▸ c.optional-object.ensures ▸ c.field-object-2.ensures))
