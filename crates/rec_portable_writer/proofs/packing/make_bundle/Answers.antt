use Rattle.rec_portable_writer.proofs.Packed.{bundles, is_bundle_of}
use Rattle.rec_portable_writer.proofs.packing.make_bundle.Goals as goal

pub returns-clause-ok : goal.returns-clause-ok
returns-clause-ok g c =
    let files = g.D.Disk.files in
    let log = c.in_ok-log.log.items in
    let store = c.in_ok-store.store.items in
    let bundle = c.in_ok-bundle_text.field-0.items in
    let is = is_bundle_of c.in_ok-manifest.manifest c.args.run_info.now log store c.deref.result.now
    c.deref-2.result.now bundle c.in_ok-bundle_text.ensures c.in_ok-manifest.ensures
    c.deref.ensures.value c.deref-2.ensures.value in
    bundles (files c.args.disk.now) (files c.read_run_file.new.disk)
    c.args.run_info.now c.args.run_dir.now log store bundle c.read_run_file.ensures.same
    c.in_ok-log.ensures.ok c.in_ok-store.ensures.ok is
