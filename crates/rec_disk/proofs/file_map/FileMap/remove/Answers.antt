use Rattle.std.proofs.Common.{None}
use Rattle.rec_disk.proofs.file_map.FileMap.remove.Goals as goal
use Rattle.rec_disk.proofs.FileMaps.{file_updated}

pub returns : goal.returns
returns c =
    file_updated c.self.inside.files c.remove.new.self c.args.self.now c.args.path.now None
    c.remove.ensures.updates c.self.view_is
