use Rattle.rec_forms.proofs.Writing.{◌▸◌, saying}
use Rattle.rec_codec.proofs.LoadedWriting.{at_end, loaded_at_end}
use Rattle.rec_codec.proofs.output_kinds.write_script_finished.Goals as goal

-- which kind it is, and what the calls wrote, one after the other
pub returns : goal.returns
returns g c =
    let all = c.with_args_to_index-object.ensures ▸ c.text-object.ensures ▸ c.field-object.ensures ▸
    c.field-object-2.ensures ▸ c.in_ok-object.ensures.written ▸ c.with_script-object.ensures in
    rw c.in-SetupScriptFinished.is (record {
      written = at_end _ _ c.left_open.result all.written c.left_open.ensures;
      loaded =
          loaded_at_end _ _ c.left_open.result c.in_ok-object.ensures.loaded c.left_open.ensures;
      known = at_end _ _ c.left_open.result (saying (λ k. (
        k.1.1.1.1.1.2,
        k.0.1,
        (k.1.1.1.1.1.1, k.0.2, k.1.1.1.1.1.3, k.1.1.1.1.1.0, k.1.1.1.0, k.0.0, k.1.1.1.1.0),
      )) all).known c.left_open.ensures;
    })
