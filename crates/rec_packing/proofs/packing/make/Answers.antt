use Rattle.rec_packing.proofs.Made.{makes}
use Rattle.rec_packing.proofs.packing.make.Goals as goal

pub returns-clause-ok : goal.returns-clause-ok
returns-clause-ok g c =
    makes (g.D.Disk.files c.args.disk.now) (g.D.Disk.files c.read_store.new.disk)
    c.args.run_dir.now c.args.run.now c.in_ok-log.log.items c.in_ok-store.store.items
    c.deref.result.now c.deref-2.result.now c.deref-3.result.now c.deref-4.result.now
    c.in_ok-salvaged.salvaged c.in_ok-ended.ended c.read_store.ensures.same
    c.in_ok-store.ensures.ok c.in_ok-log.ensures.ok c.deref.ensures.value c.deref-2.ensures.value
    c.deref-3.ensures.value c.deref-4.ensures.value c.in_ok-ended.ensures
    c.in_ok-salvaged.ensures.ok c.in_ok-salvaged.ensures.stopped
