-- What is known of an event that was judged and not refused.
use Rattle.std.specs.Prelude.{◌≡◌, suc, None}
use Rattle.rec_spans.specs.declared.judged.JudgedEvent.{JudgedEvent}
use Rattle.rec_spans.specs.History.{TraceState}
use Rattle.rec_spans.specs.Past.{TraceInput, scripts_after}
use Rattle.rec_spans.specs.Refusals.{next_refusal}
use Rattle.rec_spans.specs.Starts.{started}

-- the next event after a state has no cause to be refused, and its number, its instant, the span
-- that it starts, if it starts one, and how many setup scripts run after it are known
pub record IsJudged (state : TraceState) (input : TraceInput) (judged : JudgedEvent) : Type 0 where
  pub accepted : next_refusal state input ≡ None
  pub numbered : judged.number ≡ suc state.number
  pub instant : judged.at ≡ input.at
  pub starts : judged.started ≡ started input.change
  pub scripts : judged.running_scripts ≡ scripts_after input.act state.scripts
