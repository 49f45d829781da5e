-- Which skipped tests a report names.
use Rattle.std.specs.Prelude.{Bool, true, false}
use Rattle.rec_events.specs.declared.skipping.MismatchReason.TheVariants as reason
use Rattle.rec_events.specs.declared.skipping.MismatchReason.{MismatchReason}
use Rattle.rec_events.specs.declared.skipping.ReportSkipPolicy.TheVariants as policy
use Rattle.rec_events.specs.declared.skipping.ReportSkipPolicy.{ReportSkipPolicy}

abbrev pub is_ignored : MismatchReason → Bool
is_ignored reason.NotBenchmark = false
is_ignored reason.Ignored = true
is_ignored reason.String = false
is_ignored reason.Expression = false
is_ignored reason.Partition = false
is_ignored reason.RerunAlreadyPassed = false
is_ignored reason.DefaultFilter = false

abbrev pub reports : ReportSkipPolicy → MismatchReason → Bool
reports policy.None r = false
reports policy.Ignored r = is_ignored r
reports policy.All r = true
