use Rattle.std.proofs.Common.{rules, List, ℕ, ◌∙◌, ap, sym, subst, Some}
use Rattle.rec_disk.proofs.file_map.FileMap.extend.Goals as goal
use Rattle.rec_disk.proofs.FileMaps.{extends_memory, extends_ok}
use Rattle.rec_disk.proofs.FileMaps.{file_updated, found_none, found_some}
use Rattle.rec_disk.specs.MemoryDisks.{file_at, files_of, HasFile}

pub returns-in_default : goal.returns-in_default
returns-in_default c = (
  sym (found_none c.self.inside.files.entries c.args.self.now c.args.path.now
      c.in_default.ensures.value c.self.view_is),
  λ p. ap (λ m. file_at (files_of m.entries) p) c.get_mut.follows.holds-at-none
      ∙ ap (λ fs. file_at fs p) c.self.view_is,
)

pub returns-in_default-extend_from_slice : goal.returns-in_default-extend_from_slice
returns-in_default-extend_from_slice c =
    let grown = c.extend_from_slice.new.self in
    let new = c.get_mut.follows.lender grown in
    let there = found_some c.self.inside.files.entries c.args.self.now c.args.path.now
    c.in-Some.bytes.now c.in-Some.ensures.value c.self.view_is in
    let put = file_updated c.self.inside.files new c.args.self.now c.args.path.now (Some grown)
    ((c.get_mut.follows.holds grown).3 (search rules)) c.self.view_is in
    extends_memory c.args.self.now (files_of new.entries)
    c.args.path.now c.args.piece.now c.in-Some.bytes.now.items there
    (subst (λ (b : List ℕ). HasFile c.args.self.now (files_of new.entries) c.args.path.now (Some b))
    c.in_default-extend_from_slice.ensures.items put)

pub returns : goal.returns
returns c =
    let grown = c.extend_from_slice.new.self in
    let new = c.get_mut.follows.lender grown in
    let there = found_some c.self.inside.files.entries c.args.self.now c.args.path.now
    c.in-Some.bytes.now c.in-Some.ensures.value c.self.view_is in
    let put = file_updated c.self.inside.files new c.args.self.now c.args.path.now (Some grown)
    ((c.get_mut.follows.holds grown).3 (search rules)) c.self.view_is in
    extends_ok c.args.self.now (files_of new.entries)
    c.args.path.now c.args.piece.now c.in-Some.bytes.now.items there
    (subst (λ (b : List ℕ). HasFile c.args.self.now (files_of new.entries) c.args.path.now (Some b))
    c.in-Ok.ensures.items put)
