use Rattle.std.proofs.Common.{sym, subst}
use Rattle.std.proofs.lemmas.Result.{on_ok_weaker}
use Rattle.rec_forms.proofs.Writing.{◌▸◌, all_written}
use Rattle.rec_format.proofs.forms.run.RecordedRunInfoForm.write.Goals as goal
use Rattle.rec_format.specs.StatusFormLaws.{of-format}
use Rattle.rec_format.specs.StatusForms.{IsStatus}

-- its status is written as the format of it is
pub returns-clause-written : goal.returns-clause-written
returns-clause-written c =
    rw (of-format c.args.self.now.status)
    (c.end.ensures.written _ _
    (all_written c.begin-object.ensures (c.field-object.ensures ▸ c.optional-object.ensures ▸
    c.field-object-2.ensures ▸ c.field-object-3.ensures ▸ c.field-object-4.ensures ▸
    c.optional-object-2.ensures ▸ c.field-object-5.ensures ▸ c.field-object-6.ensures ▸
    c.field-object-7.ensures ▸ c.field-object-8.ensures ▸ c.field-object-9.ensures)))

pub returns-clause-known : goal.returns-clause-known
returns-clause-known c =
    on_ok_weaker c.end.result (λ ok.
    let k = (c.field-object.ensures ▸ c.optional-object.ensures ▸ c.field-object-2.ensures ▸
    c.field-object-3.ensures ▸ c.field-object-4.ensures ▸ c.optional-object-2.ensures ▸
    c.field-object-5.ensures ▸ c.field-object-6.ensures ▸ c.field-object-7.ensures ▸
    c.field-object-8.ensures ▸ c.field-object-9.ensures).known
    ok in
    let status = subst IsStatus (sym (of-format c.args.self.now.status)) k.1.1.1.1.1.1.1.1.1.0 in
    record {
      invocation = record {
        cli_args = k.0;
        duration = k.1.0;
        env_vars = k.1.1.0;
        last_written_at = k.1.1.1.0;
        nextest_version = k.1.1.1.1.0;
        parent_run_id = k.1.1.1.1.1.0;
      };
      outcome = record {
        run_id = k.1.1.1.1.1.1.0;
        sizes = k.1.1.1.1.1.1.1.0;
        started_at = k.1.1.1.1.1.1.1.1.0;
        status = status;
      };
      store_format_version = k.1.1.1.1.1.1.1.1.1.1;
    }) c.end.ensures.goes
