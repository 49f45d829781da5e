use Rattle.std.proofs.Common.{◌∙◌, List, ap, refl, subst, arith}
use Rattle.std.proofs.Common.{length, map, ℕ, Some, ◌≡◌, slice_get}
use Rattle.std.proofs.lemmas.List.{length-map}
use Rattle.std.proofs.lemmas.Option.{slice_get_read}
use Rattle.rec_container.proofs.Placed.{placed_at, content_placed}
use Rattle.rec_container.proofs.reader.Container.place.Goals as goal
use Rattle.rec_container.specs.Container.{Entry, ParsedContainer, place_from, StandsWithin}
use Rattle.rec_container.specs.Placed.{placed_entry}

pub index-requires : goal.index-requires
index-requires c = omega (
  arith,
  c.requires,
  ap (λ (p : ParsedContainer). length p.entries) c.self.view_is,
  length-map c.self.inside.entries.items placed_entry,
)

pub returns-clause-place : goal.returns-clause-place
returns-clause-place c =
    let held =
    slice_get_read c.self.inside.entries.items _ c.args.i c.index.result.now refl (omega (
      arith,
      c.requires,
      ap (λ (p : ParsedContainer). length p.entries) c.self.view_is,
      length-map c.self.inside.entries.items placed_entry,
    )) c.index.ensures in
    placed_at 8 c.self.inside.entries.items c.args.i c.index.result.now c.self.invariant.0.places
    held
    ∙ ap (λ (p : ParsedContainer). place_from 8 p.entries c.args.i) c.self.view_is

pub returns-clause-stands : goal.returns-clause-stands
returns-clause-stands c =
    let held =
    slice_get_read c.self.inside.entries.items _ c.args.i c.index.result.now refl (omega (
      arith,
      c.requires,
      ap (λ (p : ParsedContainer). length p.entries) c.self.view_is,
      length-map c.self.inside.entries.items placed_entry,
    )) c.index.ensures in
    subst (λ (p : ParsedContainer). (content : List ℕ)
    → slice_get (map (λ (e : Entry). e.content) p.entries) c.args.i ≡ Some content
    → StandsWithin p.bytes c.index.result.now.place content)
    c.self.view_is
    (λ content at. content_placed c.self.inside.bytes.now c.self.inside.entries.items c.args.i
    c.index.result.now content c.self.invariant.0 held at)
