use Rattle.rec_store.proofs.Storing.{sound_stores}
use Rattle.rec_store.specs.Store.{store_entries}
use Rattle.rec_export.proofs.record.record_head.Goals as goal
use Rattle.rec_export.proofs.Recorded.{never, unknown}

pub returns-in-Ok-clause-sound : goal.returns-in-Ok-clause-sound
returns-in-Ok-clause-sound g c =
    sound_stores unknown never c.args.recorder.now c.write_head.new.recorder
    (store_entries c.args.head.now) c.in-Ok.ensures.ok c.requires.sound
