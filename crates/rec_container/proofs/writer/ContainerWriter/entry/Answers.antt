use Rattle.std.proofs.Common.{◌∙◌, ◌<◌, ap, sym, subst, ℕ, List, [], String}
use Rattle.std.proofs.Common.{Vec, Bor, option_map, Some, length, refl}
use Rattle.std.specs.declared.alloc.Global.{Global}
use Rattle.rec_container.proofs.ContentsLeft.{short_name}
use Rattle.rec_container.proofs.Entries.{entry_of_pair}
use Rattle.rec_container.proofs.writer.ContainerWriter.entry.Goals as goal
use Rattle.rec_container.specs.Writing.{Writing, entry_named}

pub returns-clause-found : goal.returns-clause-found
returns-clause-found g c =
    let pair : String Global × Vec ℕ Global = (c.unwrap.result.0.now, c.unwrap.result.1.now) in
    let at = sym c.get_index.ensures.entry
    ∙ ap (option_map (λ (p : Bor (String Global) × Bor (Vec ℕ Global)). (p.0.now, p.1.now)))
    c.unwrap.ensures in
    let found = entry_of_pair c.args.self.now.entries c.self.inside.entries.entries c.args.i pair
    (sym (ap (λ (w : Writing _). w.entries) c.self.view_is)) at in
    found ∙ ap (λ (l : List ℕ). Some (entry_named l c.unwrap.result.1.now.items))
    (sym c.as_str.ensures.value)
    ∙ ap (λ (l : List ℕ). Some (entry_named c.as_str.result.now l)) (sym c.as_slice.ensures.value)

pub returns-clause-short : goal.returns-clause-short
returns-clause-short g c =
    let pair : String Global × Vec ℕ Global = (c.unwrap.result.0.now, c.unwrap.result.1.now) in
    let at = sym c.get_index.ensures.entry
    ∙ ap (option_map (λ (p : Bor (String Global) × Bor (Vec ℕ Global)). (p.0.now, p.1.now)))
    c.unwrap.ensures in
    let found = entry_of_pair _ c.self.inside.entries.entries c.args.i pair refl at in
    subst (λ (l : List ℕ). length l < 65536) (sym c.as_str.ensures.value)
    (short_name [] _ c.args.i _ c.self.invariant.entries found)
