use Rattle.std.proofs.Common.{◌∙◌, ap, subst, sym, arith}
use Rattle.std.proofs.lemmas.Result.{IfOk-at_ok}
use Rattle.serde_json.specs.Written.{compact_text}
use Rattle.rec_container.specs.Container.{spell}
use Rattle.rec_format.specs.declared.manifest.PortableManifest.{PortableManifest}
use Rattle.rec_format.specs.RunForms.{IsManifest, manifest_value}
use Rattle.rec_store.specs.Entries.{bundle_entries}
use Rattle.rec_salvage.proofs.salvaging.make_bundle.Goals as goal
use Rattle.rec_salvage.specs.Salvages.{IsBundle}

pub returns : goal.returns
returns c =
    let log = c.args.log.now in
    let store = c.args.store.now in
    let is = c.in_ok-manifest.ensures.is in
    let bundle = c.in_ok-bundle.field-0 in
    let text = IfOk-at_ok _ c.in_ok-bundle.was c.bundle_text-bundle.ensures in
    subst (IsBundle (record c.args.run.now { sizes = c.args.sizes }) log store) (sym c.new.ensures)
    (record {
      spelled = text ∙ ap (λ (m : PortableManifest).
          spell (bundle_entries (compact_text (manifest_value m)) log store))
          is;
      short = omega (arith, bundle.small);
      manifest = subst IsManifest is c.in_ok-manifest.ensures.well;
    })
