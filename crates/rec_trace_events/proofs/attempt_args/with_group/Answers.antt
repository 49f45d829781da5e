use Rattle.rec_events.specs.declared.groups.TestGroup.TheVariants.{Global}
use Rattle.rec_forms.proofs.Writing.{saying}
use Rattle.rec_forms.specs.GroupLaws.{test_group_writable}
use Rattle.rec_trace_events.proofs.attempt_args.with_group.Goals as goal

pub returns-in-Some : goal.returns-in-Some
returns-in-Some c = rw c.in-Some.is (saying (test_group_writable _) c.field.ensures)

pub returns-in-None : goal.returns-in-None
returns-in-None c = rw c.in-None.is (saying (test_group_writable Global) c.field-in-None.ensures)
