use Rattle.std.proofs.lemmas.Result.{on_ok_weaker}
use Rattle.std.proofs.lemmas.Str.{is_utf8-from_IsUtf8}
use Rattle.rec_forms.proofs.objects.write_text.Goals as goal

pub returns-clause-known : goal.returns-clause-known
returns-clause-known c =
    on_ok_weaker c.string.result (λ _. is_utf8-from_IsUtf8 _ c.utf8.value) c.string.ensures
