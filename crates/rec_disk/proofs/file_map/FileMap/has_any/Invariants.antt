use Rattle.std.proofs.Common.{◌≡◌, string_bytes}
use Rattle.std.specs.List.{list_any}
use Rattle.rec_disk.proofs.file_map.FileMap.has_any.Given as goal
use Rattle.rec_disk.specs.MemoryDisks.{lies_at}

-- none was found so far
abbrev pub invariant-loop-name : goal.invariant-loop-name
invariant-loop-name l =
    list_any (λ f. lies_at l.path f.0) l.fn.self
    ≡ list_any (λ n. lies_at l.path (string_bytes n)) l.name-iterator
