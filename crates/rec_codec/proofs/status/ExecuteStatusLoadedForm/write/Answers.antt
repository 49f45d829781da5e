use Rattle.rec_forms.proofs.Writing.{◌▸◌, all_written, saying}
use Rattle.rec_codec.proofs.LoadedWriting.{at_end, loaded_at_end}
use Rattle.rec_codec.proofs.status.ExecuteStatusLoadedForm.write.Goals as goal

-- what the calls wrote, one after the other
pub returns : goal.returns
returns g c =
    let all = c.with_before_output-object.ensures ▸ c.in_ok-object.ensures.written ▸
    c.with_after_output-object.ensures in
    record {
      written = c.ended.ensures.written _ _ (all_written c.begin-object.ensures all);
      loaded = loaded_at_end _ _ c.ended.result c.in_ok-object.ensures.loaded c.ended.ensures.goes;
      known =
          at_end _ _ c.ended.result
          (saying (λ k. record { before = k.0; output = k.1.0; after = k.1.1 }) all).known
          c.ended.ensures.goes;
    }
