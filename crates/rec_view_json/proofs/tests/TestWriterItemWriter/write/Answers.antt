use Rattle.rec_forms.proofs.Writing.{◌▸◌, all_written}
use Rattle.rec_view_json.proofs.tests.TestWriterItemWriter.write.Goals as goal
use Rattle.rec_view_json.specs.Views.{test_value}

-- what the calls wrote, one after the other
pub returns : goal.returns
unfolding test_value
returns c =
    let all = c.in_ok-object.ensures ▸ c.field-object.ensures ▸ c.optional-object.ensures ▸
    c.optional-object-2.ensures ▸ c.field-object-2.ensures ▸ c.text-object.ensures in
    c.end.ensures.written _ _
    (λ ok. rw (
      ← c.reason_at-reason.ensures,
      ← c.stress_at-stress_index.ensures,
      ← c.verdict_name.ensures,
      ← c.as_slice.ensures.value,
    )
    (all_written c.begin-object.ensures all ok))
