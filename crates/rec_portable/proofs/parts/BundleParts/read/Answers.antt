use Rattle.rec_portable.proofs.Opened.{opened_at}
use Rattle.rec_portable.proofs.parts.BundleParts.read.Goals as goal

pub returns-clause-ok : goal.returns-clause-ok
returns-clause-ok c =
    opened_at c.args.bytes.now c.args.limit (record {
      manifest = c.in_ok-manifest.manifest;
      log = c.of_entry-log.result;
      store = c.of_entry-store.result;
    }) c.in_ok-entries.entries
    c.in_ok-entries.ensures.found c.in_ok-manifest.ensures c.of_entry-log.ensures
    c.of_entry-store.ensures
