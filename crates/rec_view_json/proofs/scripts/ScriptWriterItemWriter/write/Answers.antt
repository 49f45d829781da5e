use Rattle.rec_forms.proofs.Writing.{◌▸◌, all_written}
use Rattle.rec_view_json.proofs.scripts.ScriptWriterItemWriter.write.Goals as goal
use Rattle.rec_view_json.specs.Views.{script_value}

-- what the calls wrote, one after the other
pub returns : goal.returns
unfolding script_value
returns c =
    let all = c.optional-object.ensures ▸ c.optional-object-2.ensures ▸ c.with_name-object.ensures ▸
    c.in_ok-object.ensures ▸ c.optional-object-3.ensures ▸ c.in_ok-object-2.ensures ▸
    c.optional-object-4.ensures in
    c.end.ensures.written _ _
    (λ ok. rw (
      ← c.in_ok-active.ensures,
      ← c.end_at-ended.ensures,
      ← c.instant_at-started.ensures,
      ← c.script_status_at-status.ensures,
      ← c.stress_at-stress_index.ensures,
    )
    (all_written c.begin-object.ensures all ok))
