use Rattle.rec_forms.proofs.Writing.{◌▸◌, all_written, saying}
use Rattle.rec_codec.proofs.LoadedWriting.{at_end, loaded_at_end}
use Rattle.rec_codec.proofs.script_status.SetupScriptExecuteStatusLoadedForm.write.Goals as goal

-- what the calls wrote, one after the other
pub returns : goal.returns
returns g c =
    let all = c.optional-object.ensures ▸ c.optional-object-2.ensures ▸ c.field-object.ensures ▸
    c.in_ok-object.ensures.written ▸ c.field-object-2.ensures ▸ c.field-object-3.ensures ▸
    c.field-object-4.ensures in
    record {
      written = c.ended.ensures.written _ _ (all_written c.begin-object.ensures all);
      loaded = loaded_at_end _ _ c.ended.result c.in_ok-object.ensures.loaded c.ended.ensures.goes;
      known = at_end _ _ c.ended.result (saying (λ k. record {
        output = k.1.1.1.0;
        result = k.1.1.1.1.0;
        start_time = k.1.1.1.1.1.0;
        time_taken = k.1.1.1.1.1.1;
        env_map = k.0;
        error_summary = k.1.0;
      }) all).known c.ended.ensures.goes;
    }
