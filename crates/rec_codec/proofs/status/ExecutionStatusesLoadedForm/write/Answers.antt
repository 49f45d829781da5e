use Rattle.std.proofs.Common.{refl, rules}
use Rattle.rec_codec.proofs.LoadedWriting.{at_end, loaded_at_end}
use Rattle.rec_codec.proofs.status.ExecutionStatusesLoadedForm.write.Goals as goal

-- what each call wrote, from the last one back
pub returns : goal.returns
returns g c =
    let before = c.in_ok-begin_field.ensures.goes in
    record {
      written = c.ended.ensures.written _ _ (λ _. rw (
        c.in_ok-write_each.ensures.written,
        c.as_slice.ensures.value,
        c.in_ok-begin_field.ensures.begun,
        c.field-object.ensures.written before,
        c.begin-object.ensures (c.field-object.ensures.goes before),
      ) refl);
      loaded =
          loaded_at_end _ _ c.ended.result
          (rw c.as_slice.ensures.value at c.in_ok-write_each.ensures.loaded) c.ended.ensures.goes;
      known = at_end _ _ c.ended.result (λ _. record {
        statuses = rw c.as_slice.ensures.value at c.in_ok-write_each.ensures.known;
        some = search rules;
      }) c.ended.ensures.goes;
    }
