use Rattle.std.proofs.Common.{sym, ◌∙◌}
use Rattle.rec_events.proofs.statuses.ExecutionStatuses.describe.Goals as goal

pub returns-then-not-is_success : goal.returns-then-not-is_success
returns-then-not-is_success g c = (
  c.split_first.ensures,
  (c.split_last.result.1.now, c.split_last.ensures),
  sym c.is_success.ensures ∙ c.if-not-is_success.true,
)
