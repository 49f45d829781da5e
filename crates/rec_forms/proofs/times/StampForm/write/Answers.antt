use Rattle.std.proofs.Common.{◌≡◌, ◌++◌, subst}
use Rattle.std.specs.Result.{OnOk}
use Rattle.rec_json.specs.Tokens.{value_tokens}
use Rattle.rec_forms.proofs.times.StampForm.write.Goals as goal
use Rattle.rec_forms.proofs.Writing.{◌▸◌, all_written}
use Rattle.rec_forms.specs.Times.{stamp_value}

pub returns-clause-written : goal.returns-clause-written
returns-clause-written c =
    subst
    (λ s. OnOk c.end.result (c.end.new.text ≡ c.args.text.now ++ value_tokens (stamp_value s)))
    c.self.view_is (c.end.ensures.written _ _ (all_written c.begin-object.ensures
    (c.field-object.ensures ▸ c.field-object-2.ensures ▸ c.field-object-3.ensures)))
