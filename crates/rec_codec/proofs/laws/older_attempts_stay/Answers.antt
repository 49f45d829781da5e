use Rattle.std.proofs.Common.{◌≡◌, refl}
use Rattle.std.specs.Prelude.{Option, Some, None}
use Rattle.serde_json.specs.Data.{Data}
use Rattle.serde_json.specs.Written.{compact_text}
use Rattle.rec_events.specs.declared.results.ErrorSummary.{ErrorSummary}
use Rattle.rec_events.specs.declared.results.OutputErrorSlice.{OutputErrorSlice}
use Rattle.rec_events.specs.declared.statuses.ExecuteStatus.{ExecuteStatus}
use Rattle.rec_forms.specs.Shape.{members_of}
use Rattle.rec_codec.proofs.laws.older_attempts_stay.Goals as goal
use Rattle.rec_codec.specs.Status.{status_value, status_value_3_0}

module _ {S O : Type 0} (value : O → Data) (s : ExecuteStatus S O) where
  -- an attempt without cpu time, and with these texts
  abbrev with_texts : Option ErrorSummary → Option OutputErrorSlice → ExecuteStatus S O
  with_texts summary slice = record {
    retry_data = s.retry_data;
    output = s.output;
    result = s.result;
    start_time = s.start_time;
    time_taken = s.time_taken;
    is_slow = s.is_slow;
    delay_before_start = s.delay_before_start;
    error_summary = summary;
    output_error_slice = slice;
    cpu_time = None;
  }

  -- where each field is there or not, both orders come to the same members
  stays : (summary : Option ErrorSummary) (slice : Option OutputErrorSlice)
      → compact_text (status_value value (with_texts summary slice))
      ≡ compact_text (status_value_3_0 value (with_texts summary slice))
  unfolding members_of
  stays None None = refl
  stays None (Some slice) = refl
  stays (Some summary) None = refl
  stays (Some summary) (Some slice) = refl

pub returns : goal.returns
unfolding members_of
returns g c =
    λ s none. rw none (stays g.S.OutputForm.output_value s s.error_summary s.output_error_slice)
