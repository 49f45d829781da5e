use Rattle.std.proofs.Common.{◌∙◌, List, ℕ, ap}
use Rattle.std.specs.List.{list_any}
use Rattle.rec_disk.proofs.FileMaps.{any_there}
use Rattle.rec_disk.proofs.memory_disk.MemoryDiskDisk.exists.Goals as goal
use Rattle.rec_disk.specs.MemoryDisks.{MemoryDiskState, lies_at}

pub returns-clause-answer : goal.returns-clause-answer
returns-clause-answer c =
    let same = ap (λ (d : MemoryDiskState). d.files) c.self.view_is ∙ c.in_ok-begin.ensures.files in
    any_there c.args.self.now.files c.args.path.now c.has_any.result (c.has_any.ensures
    ∙ ap (λ (fs : List (List ℕ × List ℕ)). list_any (λ f. lies_at c.args.path.now f.0) fs) same)
