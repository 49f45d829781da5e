use Rattle.rec_forms.proofs.Writing.{◌▸◌, all_written}
use Rattle.rec_junit.proofs.values.write_failed.Goals as goal
use Rattle.rec_junit.specs.Values.{failed_value}

-- what the calls wrote, one after the other
pub returns-clause-written : goal.returns-clause-written
unfolding failed_value
returns-clause-written c =
    let all = c.with_failure-object.ensures ▸ c.text-object.ensures ▸ c.in_ok-object.ensures ▸
    c.field-object.ensures in
    c.end_tagged.ensures.written _ _ _
    (λ ok. rw (← c.rerun_kind_name.ensures) (all_written c.begin_tagged-object.ensures all ok))
