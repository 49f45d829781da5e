use Rattle.std.proofs.Common.{◌≡◌, ◌++◌, refl, subst}
use Rattle.std.specs.Result.{OnOk}
use Rattle.serde_json.specs.Data.{string}
use Rattle.rec_json.specs.Tokens.{value_tokens}
use Rattle.rec_forms.proofs.skipping.MismatchReasonForm.write.Goals as goal
use Rattle.rec_forms.proofs.skipping.MismatchReasonForm.write.Goals.{
  in-NotBenchmark,
  in-Ignored,
  in-String,
  in-Expression,
  in-Partition,
  in-RerunAlreadyPassed,
  in-DefaultFilter,
}
use Rattle.rec_forms.specs.Skipping.{mismatch_reason_value}

pub returns-clause-written : goal.returns-clause-written
returns-clause-written c =
    let named : string c.match-self.name.now ≡ mismatch_reason_value c.args.self.now =
    elim c.match-self.branch [
      | in-NotBenchmark w ↦ rw (w.name-is, w.in-NotBenchmark.is) refl
      | in-Ignored w ↦ rw (w.name-is, w.in-Ignored.is) refl
      | in-String w ↦ rw (w.name-is, w.in-String.is) refl
      | in-Expression w ↦ rw (w.name-is, w.in-Expression.is) refl
      | in-Partition w ↦ rw (w.name-is, w.in-Partition.is) refl
      | in-RerunAlreadyPassed w ↦ rw (w.name-is, w.in-RerunAlreadyPassed.is) refl
      | in-DefaultFilter w ↦ rw (w.name-is, w.in-DefaultFilter.is) refl
    ] in
    subst (λ d. OnOk c.string.result (c.string.new.self ≡ c.args.text.now ++ value_tokens d))
    named c.string.ensures
