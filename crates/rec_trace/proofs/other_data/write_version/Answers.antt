use Rattle.std.proofs.lemmas.Result.{on_ok_weaker}
use Rattle.rec_forms.proofs.Writing.{all_written}
use Rattle.rec_trace.proofs.other_data.write_version.Goals as goal
use Rattle.rec_trace.proofs.OtherData.{version_alone}
use Rattle.rec_trace.specs.Texts.{other_data}

pub returns-clause-written : goal.returns-clause-written
unfolding other_data
returns-clause-written c =
    c.end.ensures.written _ _ (all_written c.begin-object.ensures c.field-object.ensures)

pub returns-clause-known : goal.returns-clause-known
returns-clause-known c =
    on_ok_weaker c.end.result (λ ok. version_alone _ (c.field-object.ensures.known ok))
    c.end.ensures.goes
