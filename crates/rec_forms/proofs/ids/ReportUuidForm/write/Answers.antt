use Rattle.std.proofs.Common.{rules}
use Rattle.std.proofs.lemmas.Result.{on_ok_weaker}
use Rattle.rec_forms.proofs.ids.ReportUuidForm.write.Goals as goal
use Rattle.rec_forms.specs.IdLaws.{IsUuid-parsed}

pub returns-clause-known : goal.returns-clause-known
returns-clause-known c =
    on_ok_weaker c.string.result
    (λ _. IsUuid-parsed c.encode_lower-id.result.now c.args.self.now (search rules))
    c.string.ensures
