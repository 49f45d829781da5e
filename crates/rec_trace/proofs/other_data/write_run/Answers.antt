use Rattle.std.proofs.lemmas.Result.{on_ok_weaker}
use Rattle.rec_forms.proofs.Writing.{◌▸◌, all_written}
use Rattle.rec_trace.proofs.other_data.write_run.Goals as goal
use Rattle.rec_trace.proofs.OtherData.{run_written}
use Rattle.rec_trace.specs.Texts.{other_data}

pub returns-clause-written : goal.returns-clause-written
unfolding other_data
returns-clause-written c =
    c.end.ensures.written _ _
    (all_written c.begin-object.ensures (c.with_words-object.ensures ▸ c.field-object.ensures ▸
    c.field-object-2.ensures ▸ c.field-object-3.ensures ▸ c.optional-object.ensures))

pub returns-clause-known : goal.returns-clause-known
returns-clause-known c =
    on_ok_weaker c.end.result (λ ok.
    let k = (c.with_words-object.ensures ▸ c.field-object.ensures ▸ c.field-object-2.ensures ▸
    c.field-object-3.ensures ▸ c.optional-object.ensures).known
    ok in
    run_written _ _ k.1.0 k.1.1.1.0 k.1.1.0 k.0 k.1.1.1.1) c.end.ensures.goes
