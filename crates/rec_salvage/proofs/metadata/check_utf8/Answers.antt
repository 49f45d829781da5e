use Rattle.std.proofs.Common.{ap, subst, sym, Bool}
use Rattle.std.proofs.lemmas.Str.{is_utf8-from_IsUtf8}
use Rattle.rec_container.proofs.Utf8.{not_utf8}
use Rattle.rec_salvage.proofs.metadata.check_utf8.Goals as goal
use Rattle.rec_salvage.specs.Refusals.{IsRefusal, content_refusal}

pub returns-in-Ok : goal.returns-in-Ok
returns-in-Ok c =
    ap (content_refusal c.args.path.now) (is_utf8-from_IsUtf8 _ c.in-Ok.ensures.cases.1)

pub returns-in-Err : goal.returns-in-Err
returns-in-Err c =
    subst (λ (b : Bool). IsRefusal (content_refusal c.args.path.now b) c.bad.result)
    (sym (not_utf8 _ c.in-Err.ensures.cases.0)) c.bad.ensures
