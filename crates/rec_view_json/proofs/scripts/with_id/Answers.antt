use Rattle.rec_forms.proofs.Writing.{saying}
use Rattle.rec_view_json.proofs.scripts.with_id.Goals as goal

pub returns-in-Some : goal.returns-in-Some
returns-in-Some c = rw c.in-Some.is (saying (λ _. tt) c.field.ensures)
