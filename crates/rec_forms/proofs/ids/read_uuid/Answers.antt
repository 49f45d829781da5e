use Rattle.std.proofs.Common.{sym, true≢false}
use Rattle.rec_forms.proofs.ids.read_uuid.Goals as goal
use Rattle.rec_forms.specs.IdLaws.{refused_none}

pub returns-in-Err : goal.returns-in-Err
returns-in-Err c = sym (refused_none _ (λ p. true≢false (sym (c.in-Err.ensures.ok.1 p))))
