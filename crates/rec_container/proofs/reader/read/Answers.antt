use Rattle.std.proofs.Common.{◌≡◌, ◌∙◌, ◌+◌, ap, arith, length, drop, inl, inr, refl, Ok}
use Rattle.std.proofs.Common.{Some, None, Option, Result, List, ℕ, Bor, sym, subst, IfSome}
use Rattle.std.specs.Option.{option_map}
use Rattle.rec_container.proofs.Grammar.{step_at-some}
use Rattle.rec_container.proofs.Placed.{prefix_placed}
use Rattle.rec_container.proofs.Prefixes.{reading_begins, reading_goes_on}
use Rattle.rec_container.proofs.Prefixes.{reading_ends, magic_tested}
use Rattle.rec_container.proofs.reader.read.Goals as goal
use Rattle.rec_container.specs.Container.{Entry, IsContainer, ParsedContainer}
use Rattle.rec_container.specs.declared.errors.ContainerError.{ContainerError}
use Rattle.rec_container.specs.declared.indexed.PlacedEntry.{PlacedEntry}
use Rattle.rec_container.specs.Placed.{placed_entry, placed_entries}
use Rattle.rec_container.specs.Reading.{step_at}

pub returns-in_default-clause-fault : goal.returns-in_default-clause-fault
returns-in_default-clause-fault c = inr (inl (
  magic_tested c.args.bytes.now c.as_slice.result.now _ c.as_slice.ensures
      c.in_default.ensures.cases,
  refl,
))

pub loop-entries-init : goal.loop-entries-init
loop-entries-init c =
    let cases = c.in-Some.ensures.cases in
    let eight = ap length c.as_slice.ensures in
    reading_begins c.args.bytes.now c.in-Some.rest.now c.new-entries.result
    (λ i. omega (arith, c.type_inv.bytes i))
    (magic_tested c.args.bytes.now c.as_slice.result.now _ c.as_slice.ensures cases.0)
    (cases.1 ∙ ap (λ n. drop n c.args.bytes.now) eight) (omega (arith, cases.2, eight))
    c.new-entries.ensures

abbrev stepped : Option (PlacedEntry × Bor (List ℕ))
    → Result (Option (Entry × List ℕ)) ContainerError
stepped o = Ok (option_map (λ x. (placed_entry x.0, x.1.now)) o)

pub push-requires : goal.push-requires
push-requires c =
    let h = c.in-Some-2.held in
    let es = placed_entries c.loop-entries.entries in
    let found : step_at c.loop-entries.at es c.loop-entries.rest.now
    ≡ Ok (Some (placed_entry h, c.in-Some-2.after.now)) =
    c.in_ok-held.ensures.step ∙ ap stepped c.in-Some-2.is in
    (step_at-some c.loop-entries.at es c.loop-entries.rest.now (placed_entry h)
    c.in-Some-2.after.now c.loop-entries.invariant.octets found).new

pub loop-entries-preserved : goal.loop-entries-preserved
loop-entries-preserved c =
    let h = c.in-Some-2.held in
    let at = c.loop-entries.at in
    let rest = c.loop-entries.rest.now in
    let found : step_at at (placed_entries c.loop-entries.entries) rest
    ≡ Ok (Some (placed_entry h, c.in-Some-2.after.now)) =
    c.in_ok-held.ensures.step ∙ ap stepped c.in-Some-2.is in
    let place = subst (λ (o : Option (PlacedEntry × Bor (List ℕ))).
    IfSome o (λ x. (x.0.place ≡ at + 11 + length x.0.name.now)
    × (x.0.place + length x.0.content.now + length x.1.now ≡ at + length rest)))
    c.in-Some-2.is c.in_ok-held.ensures.place in
    reading_goes_on c.args.bytes.now c.loop-entries.entries c.push.new.self h rest
    c.in-Some-2.after.now at c.loop-entries.invariant found c.in_ok-push.ensures.added
    (h.place + length h.content.now) (omega (arith, place.0)) place.0

pub container_of-requires : goal.container_of-requires
container_of-requires c =
    prefix_placed c.args.bytes.now c.loop-entries.entries c.loop-entries.rest.now
    c.loop-entries.invariant.prefix c.loop-entries.invariant.placed

pub returns-clause-found : goal.returns-clause-found
returns-clause-found c =
    let at = c.loop-entries.at in
    let rest = c.loop-entries.rest.now in
    let ends : step_at at (placed_entries c.loop-entries.entries) rest ≡ Ok None =
    c.in_ok-held.ensures.step ∙ ap stepped c.in_default-2.is in
    let whole =
    reading_ends c.args.bytes.now c.loop-entries.entries rest at c.loop-entries.invariant ends in
    let made = c.in_ok-container_of.ensures in (
      ap (λ (p : ParsedContainer). p.bytes) made,
      subst (λ (p : ParsedContainer). IsContainer c.args.bytes.now p.entries) (sym made) whole,
    )
