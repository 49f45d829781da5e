use Rattle.std.proofs.Common.{◌≡◌, subst, IfOk}
use Rattle.serde_json.specs.Written.{compact_text}
use Rattle.rec_format.specs.declared.run.RecordedRunInfo.{RecordedRunInfo}
use Rattle.rec_format.specs.RunForms.{manifest_value}
use Rattle.rec_format.specs.Runs.{manifest_of}
use Rattle.rec_export.proofs.bundle.build_manifest.Goals as goal

pub returns : goal.returns
returns c =
    subst (λ (i : RecordedRunInfo). IfOk c.write_manifest-text.result
    (λ b. b.items ≡ compact_text (manifest_value (manifest_of i))))
    c.in_ok-info.ensures c.write_manifest-text.ensures
