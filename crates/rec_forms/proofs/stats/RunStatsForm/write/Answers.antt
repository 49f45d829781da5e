use Rattle.std.proofs.lemmas.Result.{on_ok_weaker}
use Rattle.rec_forms.proofs.stats.RunStatsForm.write.Goals as goal
use Rattle.rec_forms.proofs.Writing.{◌▸◌, all_written}

pub returns-clause-written : goal.returns-clause-written
returns-clause-written c =
    c.end.ensures.written _ _ (all_written c.begin-object.ensures (c.optional-object.ensures ▸
    c.write-object.ensures ▸ c.write-object-2.ensures ▸ c.write-object-3.ensures))

pub returns-clause-known : goal.returns-clause-known
returns-clause-known c =
    on_ok_weaker c.end.result (λ ok.
    let k =
    (c.write-object.ensures ▸ c.write-object-2.ensures ▸ c.write-object-3.ensures).known ok in
    record { first_counts = k.0; middle_counts = k.1.0; last_counts = k.1.1 }) c.end.ensures.goes
