use Rattle.std.proofs.Common.{List, ℕ}
use Rattle.std.proofs.Common.{◌∙◌, sym, subst, refl, Some}
use Rattle.rec_container.proofs.Entries.{same_bytes}
use Rattle.rec_disk.proofs.file_map.FileMap.rename.Goals as goal
use Rattle.rec_disk.proofs.FileMaps.{refuses_missing, renames_same, renames_other}
use Rattle.rec_disk.specs.Disks.{AreSame, with_file}
use Rattle.rec_disk.specs.MemoryDisks.{file_at}

pub returns-in_default-clause-answer : goal.returns-in_default-clause-answer
returns-in_default-clause-answer c = (refuses_missing _ c.in_default.ensures, λ _. refl)

pub returns-then-eq-clause-answer : goal.returns-then-eq-clause-answer
returns-then-eq-clause-answer c =
    renames_same (file_at c.args.self.now) c.args.from.now c.args.to.now c.in-Some.bytes.now
    c.in-Some.ensures (same_bytes _ _ c.if-eq.ensures)

pub returns-clause-answer : goal.returns-clause-answer
returns-clause-answer c =
    let fs = file_at c.args.self.now in
    let mid = file_at c.put.new.self in
    let bytes = c.in-Some.bytes.now in
    let put = subst (λ (b : List ℕ). AreSame (with_file fs c.args.to.now (Some b)) mid)
    (c.deref.ensures.value ∙ c.in_ok-bytes.ensures.items) c.in_ok-put.ensures.ok in
    renames_other fs mid (file_at c.remove.new.self)
    c.args.from.now c.args.to.now bytes c.in-Some.ensures (sym c.if-eq.ensures) put c.remove.ensures
