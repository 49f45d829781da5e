use Rattle.std.proofs.Common.{◌≡◌, IfOk, subst}
use Rattle.serde_json.specs.Written.{compact_text}
use Rattle.rec_format.specs.declared.manifest.PortableManifest.{PortableManifest}
use Rattle.rec_format.specs.RunForms.{manifest_value}
use Rattle.rec_store.proofs.metadata.write_manifest.Goals as goal

pub returns : goal.returns
returns c =
    subst (λ (m : PortableManifest).
    IfOk c.write_text-text.result (λ b. b.items ≡ compact_text (manifest_value m)))
    c.in_ok-manifest.ensures c.write_text-text.ensures.text
