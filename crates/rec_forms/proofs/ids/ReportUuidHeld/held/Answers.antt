use Rattle.std.proofs.Common.{rules}
use Rattle.rec_forms.proofs.ids.ReportUuidHeld.held.Goals as goal
use Rattle.rec_forms.specs.IdLaws.{IsUuid-parsed}

pub returns : goal.returns
returns c = IsUuid-parsed c.encode_lower-text.result.now c.args.self.now (search rules)
