-- Why tests are skipped, and which of these a report names, reads back and is writable.
use Rattle.std.specs.Prelude.{◌≡◌, Some, refl}
use Rattle.rec_events.specs.declared.skipping.MismatchReason.TheVariants as reason
use Rattle.rec_events.specs.declared.skipping.MismatchReason.{MismatchReason}
use Rattle.rec_events.specs.declared.skipping.ReportSkipPolicy.TheVariants as policy
use Rattle.rec_events.specs.declared.skipping.ReportSkipPolicy.{ReportSkipPolicy}
use Rattle.rec_forms.specs.Skipping.{mismatch_reason_value, mismatch_reason_form}
use Rattle.rec_forms.specs.Skipping.{skip_policy_value, skip_policy_form}
use Rattle.rec_forms.specs.Writable.{IsWritable, word_writable}

pub mismatch_reason_back : (x : MismatchReason)
    → mismatch_reason_form (mismatch_reason_value x) ≡ Some x
unfolding mismatch_reason_form
mismatch_reason_back reason.NotBenchmark = refl
mismatch_reason_back reason.Ignored = refl
mismatch_reason_back reason.String = refl
mismatch_reason_back reason.Expression = refl
mismatch_reason_back reason.Partition = refl
mismatch_reason_back reason.RerunAlreadyPassed = refl
mismatch_reason_back reason.DefaultFilter = refl

pub mismatch_reason_writable : (x : MismatchReason) → IsWritable 0 (mismatch_reason_value x)
mismatch_reason_writable reason.NotBenchmark = word_writable _ refl
mismatch_reason_writable reason.Ignored = word_writable _ refl
mismatch_reason_writable reason.String = word_writable _ refl
mismatch_reason_writable reason.Expression = word_writable _ refl
mismatch_reason_writable reason.Partition = word_writable _ refl
mismatch_reason_writable reason.RerunAlreadyPassed = word_writable _ refl
mismatch_reason_writable reason.DefaultFilter = word_writable _ refl

pub skip_policy_back : (x : ReportSkipPolicy) → skip_policy_form (skip_policy_value x) ≡ Some x
unfolding skip_policy_form
skip_policy_back policy.None = refl
skip_policy_back policy.Ignored = refl
skip_policy_back policy.All = refl

pub skip_policy_writable : (x : ReportSkipPolicy) → IsWritable 0 (skip_policy_value x)
skip_policy_writable policy.None = word_writable _ refl
skip_policy_writable policy.Ignored = word_writable _ refl
skip_policy_writable policy.All = word_writable _ refl
