use Rattle.rec_forms.proofs.Writing.{◌▸◌, all_written}
use Rattle.rec_view_json.proofs.counts.write_counts.Goals as goal
use Rattle.rec_view_json.specs.Views.{counts_value}

-- what the calls wrote, one after the other
pub returns : goal.returns
unfolding counts_value
returns c vs are =
    let all = c.with_judged-object.ensures ▸ c.field-object.ensures ▸ c.field-object-2.ensures ▸
    c.field-object-3.ensures in
    c.end.ensures.written _ _
    (λ ok. rw (
      ← are.failed,
      ← are.flaky,
      ← are.not_started,
      ← are.passed,
      ← are.skipped,
      ← are.unfinished,
      ← c.at_most-unnamed.ensures,
    )
    (all_written c.begin-object.ensures all ok))
