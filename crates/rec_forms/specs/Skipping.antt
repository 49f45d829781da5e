-- The values and forms of why tests are skipped, and which of these a report names.
use Rattle.std.specs.Prelude.{ℕ, List, [], ◌∷◌, Option, option_and_then, codes}
use Rattle.serde_json.specs.Data.{Data, string}
use Rattle.serde_json.specs.Find.{as_str}
use Rattle.rec_events.specs.declared.skipping.MismatchReason.TheVariants as reason
use Rattle.rec_events.specs.declared.skipping.MismatchReason.{MismatchReason}
use Rattle.rec_events.specs.declared.skipping.ReportSkipPolicy.TheVariants as policy
use Rattle.rec_events.specs.declared.skipping.ReportSkipPolicy.{ReportSkipPolicy}
use Rattle.rec_forms.specs.Shape.{named}

-- MismatchReason
abbrev pub mismatch_reason_name : MismatchReason → List ℕ
mismatch_reason_name reason.NotBenchmark = codes "not-benchmark"
mismatch_reason_name reason.Ignored = codes "ignored"
mismatch_reason_name reason.String = codes "string"
mismatch_reason_name reason.Expression = codes "expression"
mismatch_reason_name reason.Partition = codes "partition"
mismatch_reason_name reason.RerunAlreadyPassed = codes "rerun-already-passed"
mismatch_reason_name reason.DefaultFilter = codes "default-filter"

abbrev pub mismatch_reason_value : MismatchReason → Data
mismatch_reason_value x = string (mismatch_reason_name x)

abbrev pub mismatch_reasons : List (List ℕ × MismatchReason)
mismatch_reasons =
    (codes "not-benchmark", reason.NotBenchmark)
    ∷ (codes "ignored", reason.Ignored)
    ∷ (codes "string", reason.String)
    ∷ (codes "expression", reason.Expression)
    ∷ (codes "partition", reason.Partition)
    ∷ (codes "rerun-already-passed", reason.RerunAlreadyPassed)
    ∷ (codes "default-filter", reason.DefaultFilter)
    ∷ []

unfoldable pub mismatch_reason_form : Data → Option MismatchReason
mismatch_reason_form d = option_and_then (named mismatch_reasons) (as_str d)

-- ReportSkipPolicy
abbrev pub skip_policy_name : ReportSkipPolicy → List ℕ
skip_policy_name policy.None = codes "none"
skip_policy_name policy.Ignored = codes "ignored"
skip_policy_name policy.All = codes "all"

abbrev pub skip_policy_value : ReportSkipPolicy → Data
skip_policy_value x = string (skip_policy_name x)

abbrev pub skip_policies : List (List ℕ × ReportSkipPolicy)
skip_policies =
    (codes "none", policy.None) ∷ (codes "ignored", policy.Ignored) ∷ (codes "all", policy.All) ∷ []

unfoldable pub skip_policy_form : Data → Option ReportSkipPolicy
skip_policy_form d = option_and_then (named skip_policies) (as_str d)
