use Rattle.rec_container.proofs.reader.Container.parse.Goals as goal
use Rattle.rec_container.proofs.Unique.{only_reading}

pub returns-clause-only : goal.returns-clause-only
returns-clause-only c =
    only_reading c.args.bytes.now c.read.result c.read.ensures.found c.read.ensures.fault
