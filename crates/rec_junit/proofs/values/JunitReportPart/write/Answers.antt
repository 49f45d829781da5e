use Rattle.rec_forms.proofs.Writing.{◌▸◌, all_written}
use Rattle.rec_junit.proofs.values.JunitReportPart.write.Goals as goal
use Rattle.rec_junit.specs.Values.{report_value}

-- what the calls wrote, one after the other
pub returns-clause-written : goal.returns-clause-written
unfolding report_value
returns-clause-written c =
    let all = c.field-object.ensures ▸ c.field-object-2.ensures ▸ c.in_ok-object.ensures ▸
    c.field-object-3.ensures ▸ c.field-object-4.ensures in
    c.end.ensures.written _ _ (λ ok. all_written c.begin-object.ensures all ok)
