use Rattle.std.specs.Prelude.{refl}
use Rattle.rec_forms.proofs.stress.write_time.Goals as goal

-- what each call wrote, from the last one back
pub returns-clause-written : goal.returns-clause-written
returns-clause-written c =
    c.end_tagged.ensures.written _ _ _ (λ at3.
    let at2 = c.field-object-3.ensures.goes at3 in
    let at1 = c.field-object-2.ensures.goes at2 in
    let at0 = c.field-object.ensures.goes at1 in
    rw (
      c.field-object-3.ensures.written at3,
      c.field-object-2.ensures.written at2,
      c.field-object.ensures.written at1,
      c.begin_tagged-object.ensures at0,
    ) refl)
