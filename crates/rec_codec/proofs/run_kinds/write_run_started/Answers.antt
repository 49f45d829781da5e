use Rattle.std.proofs.lemmas.Result.{on_ok_weaker}
use Rattle.rec_forms.proofs.Writing.{◌▸◌, saying}
use Rattle.rec_codec.proofs.run_kinds.write_run_started.Goals as goal

-- which kind it is, and what the calls wrote, one after the other
pub returns : goal.returns
returns c =
    let all =
    c.field-object.ensures ▸ c.with_elapsed_and_kind-object.ensures ▸ c.field-object-2.ensures ▸
    c.field-object-3.ensures ▸ c.optional-object.ensures ▸ c.field-object-4.ensures in
    rw c.in-RunStarted.is (record {
      written = on_ok_weaker c.leave_open.result all.written c.leave_open.ensures;
      known =
          on_ok_weaker c.leave_open.result
          (saying (λ k. (k.1.1.1.1.1, k.1.0, (k.1.1.1.0, k.1.1.0, k.0, k.1.1.1.1.0))) all).known
          c.leave_open.ensures;
    })
