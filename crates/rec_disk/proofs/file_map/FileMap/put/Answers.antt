use Rattle.std.proofs.Common.{Some, subst, string_bytes}
use Rattle.rec_disk.proofs.file_map.FileMap.put.Goals as goal
use Rattle.rec_disk.proofs.FileMaps.{file_updated}
use Rattle.rec_disk.specs.MemoryDisks.{files_of, HasFile}

pub returns-clause-ok : goal.returns-clause-ok
returns-clause-ok c =
    let new = files_of c.insert.new.self.entries in
    let put = file_updated c.self.inside.files c.insert.new.self c.args.self.now
    (string_bytes c.in_ok-path.path) (Some c.in_ok-bytes.bytes)
    c.in_ok-insert.ensures.updates c.self.view_is in
    subst (λ p. HasFile c.args.self.now new p (Some c.args.bytes.now)) c.in_ok-path.ensures.ok
    (subst (λ b. HasFile c.args.self.now new (string_bytes c.in_ok-path.path) (Some b))
    c.in_ok-bytes.ensures.items put)
