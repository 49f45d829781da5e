use Rattle.rec_forms.proofs.Writing.{◌▸◌, all_written}
use Rattle.rec_format.proofs.forms.head.SessionHeadForm.write.Goals as goal

pub returns-clause-written : goal.returns-clause-written
returns-clause-written c =
    c.end.ensures.written _ _
    (all_written c.begin-object.ensures (c.field-object.ensures ▸ c.field-object-2.ensures ▸
    c.field-object-3.ensures ▸ c.optional-object.ensures ▸ c.field-object-4.ensures ▸
    c.field-object-5.ensures ▸ c.field-object-6.ensures ▸ c.optional-object-2.ensures ▸
    c.field-object-7.ensures ▸ c.optional-object-3.ensures ▸ c.field-object-8.ensures ▸
    c.field-object-9.ensures ▸ c.field-object-10.ensures ▸ c.field-object-11.ensures))
