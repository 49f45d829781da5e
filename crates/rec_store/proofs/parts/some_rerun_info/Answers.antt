use Rattle.std.proofs.Common.{ap}
use Rattle.rec_container.specs.Reading.{◌>>=◌}
use Rattle.rec_store.proofs.PartRefusals.{refuses_next}
use Rattle.rec_store.proofs.parts.some_rerun_info.Goals as goal
use Rattle.rec_store.specs.Parts.{rerun_item, some_info}

pub returns-in-Err : goal.returns-in-Err
returns-in-Err c =
    refuses_next (rerun_item c.args.limit c.args.content.now)
    some_info c.in-Err.error c.in-Err.ensures

pub returns-in-Ok : goal.returns-in-Ok
returns-in-Ok c = ap (λ r. r >>= some_info) c.in-Ok.ensures
