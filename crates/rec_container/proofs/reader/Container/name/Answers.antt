use Rattle.std.proofs.Common.{◌∙◌, ap, refl, sym, arith, length, map, slice_get}
use Rattle.std.proofs.lemmas.List.{length-map}
use Rattle.std.proofs.lemmas.Option.{slice_get_read}
use Rattle.rec_container.proofs.Placed.{slice_get-placed_entries}
use Rattle.rec_container.proofs.reader.Container.name.Goals as goal
use Rattle.rec_container.specs.Container.{Entry, ParsedContainer}
use Rattle.rec_container.specs.Placed.{placed_entry}

pub returns : goal.returns
returns c =
    let held =
    slice_get_read c.self.inside.entries.items _ c.args.i c.index.result.now refl (omega (
      arith,
      c.requires,
      ap (λ (p : ParsedContainer). length p.entries) c.self.view_is,
      length-map c.self.inside.entries.items placed_entry,
    )) c.index.ensures in
    let part = λ (e : Entry). e.name in
    ap (λ (p : ParsedContainer). slice_get (map part p.entries) c.args.i) (sym c.self.view_is)
    ∙ slice_get-placed_entries part c.self.inside.entries.items c.args.i c.index.result.now held

pub index-requires : goal.index-requires
index-requires c = omega (
  arith,
  c.requires,
  ap (λ (p : ParsedContainer). length p.entries) c.self.view_is,
  length-map c.self.inside.entries.items placed_entry,
)
