use Rattle.std.proofs.Common.{◌∙◌, ap, Some}
use Rattle.rec_disk.proofs.file_map.FileMap.get.Goals as goal
use Rattle.rec_disk.proofs.FileMaps.{found_some, found_none}

pub returns-in-Some : goal.returns-in-Some
returns-in-Some c = ap Some c.as_slice.ensures.value ∙ found_some c.self.inside.files.entries
    c.args.self.now c.args.path.now c.in-Some.bytes.now c.in-Some.ensures.value c.self.view_is

pub returns-in-None : goal.returns-in-None
returns-in-None c =
    found_none c.self.inside.files.entries c.args.self.now c.args.path.now c.in-None.ensures.value
    c.self.view_is
