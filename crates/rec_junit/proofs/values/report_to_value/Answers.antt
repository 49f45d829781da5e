use Rattle.std.proofs.Common.{◌≡◌, Some, ap, sym, ◌∙◌, arith}
use Rattle.std.proofs.lemmas.Result.{IfOk-weaker}
use Rattle.serde_json.specs.Read.{read}
use Rattle.serde_json.specs.View.{view}
use Rattle.serde_json.specs.Written.{has_float}
use Rattle.rec_forms.proofs.ReadBack.{IsWritable-read_back}
use Rattle.rec_junit.proofs.values.report_to_value.Goals as goal
use Rattle.rec_junit.specs.Values.{report_value}

pub value_of_text-requires : goal.value_of_text-requires
value_of_text-requires c =
    let back = IsWritable-read_back 10 (report_value c.args.report.now)
    c.in_ok-text.ensures.writable (omega arith) in
    let is : read c.deref.result.now ≡ Some (report_value c.args.report.now) =
    ap read (c.deref.ensures ∙ c.in_ok-text.ensures.text) ∙ back.0 in
    λ none. let both = sym is ∙ none in cc both

pub returns-clause-value : goal.returns-clause-value
returns-clause-value c =
    let back = IsWritable-read_back 10 (report_value c.args.report.now)
    c.in_ok-text.ensures.writable (omega arith) in
    let is : read c.deref.result.now ≡ Some (report_value c.args.report.now) =
    ap read (c.deref.ensures ∙ c.in_ok-text.ensures.text) ∙ back.0 in
    c.value_of_text.ensures _ is

pub returns-clause-whole : goal.returns-clause-whole
returns-clause-whole c =
    let back = IsWritable-read_back 10 (report_value c.args.report.now)
    c.in_ok-text.ensures.writable (omega arith) in
    let is : read c.deref.result.now ≡ Some (report_value c.args.report.now) =
    ap read (c.deref.ensures ∙ c.in_ok-text.ensures.text) ∙ back.0 in
    IfOk-weaker c.value_of_text.result (λ v. view v ≡ report_value c.args.report.now) _
    (λ v same. ap has_float same ∙ c.in_ok-text.ensures.writable.whole)
    (c.value_of_text.ensures _ is)
