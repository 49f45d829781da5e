use Rattle.rec_forms.proofs.Writing.{◌▸◌, saying}
use Rattle.rec_view_json.proofs.scripts.with_name.Goals as goal

pub returns : goal.returns
returns c =
    rw (← c.index_at-index.ensures, ← c.script_at-id.ensures)
    (saying (λ _. tt) (c.optional-object.ensures ▸ c.with_id.ensures))
