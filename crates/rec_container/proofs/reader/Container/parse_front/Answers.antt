use Rattle.std.proofs.Common.{◌≡◌, Bool, true, false, ◌∙◌, ◌+◌, ap, arith, length, drop, sym, subst}
use Rattle.rec_container.proofs.Grammar.{step_at-some}
use Rattle.rec_container.proofs.Placed.{prefix_placed}
use Rattle.rec_container.proofs.Prefixes.{reading_begins, reading_goes_on, magic_tested}
use Rattle.rec_container.proofs.reader.Container.parse_front.Goals as goal
use Rattle.rec_container.specs.Container.{ParsedContainer}
use Rattle.rec_container.specs.Placed.{placed_entry, placed_entries}
use Rattle.rec_container.specs.WholePrefixes.{IsWholePrefix}

never_both : {b : Bool} {P : Type 0} → b ≡ true → b ≡ false → P
never_both there missing = absurd cc

pub loop-held-init : goal.loop-held-init
loop-held-init c =
    let cases = c.in-Some.ensures.cases in
    let eight = ap length c.as_slice.ensures in
    reading_begins c.args.bytes.now c.in-Some.rest.now c.new-entries.result
    (λ i. omega (arith, c.type_inv.bytes i))
    (magic_tested c.args.bytes.now c.as_slice.result.now _ c.as_slice.ensures cases.0)
    (cases.1 ∙ ap (λ n. drop n c.args.bytes.now) eight) (omega (arith, cases.2, eight))
    c.new-entries.ensures

pub push-requires : goal.push-requires
push-requires c =
    (step_at-some c.loop-held.at (placed_entries c.loop-held.entries) c.loop-held.rest.now
    (placed_entry c.in-Some-next_entry.held)
    c.in-Some-next_entry.after.now c.loop-held.invariant.octets
    c.in-Some-next_entry.ensures.step).new

pub loop-held-preserved : goal.loop-held-preserved
loop-held-preserved c =
    let h = c.in-Some-next_entry.held in
    let place = c.in-Some-next_entry.ensures.place in
    reading_goes_on c.args.bytes.now c.loop-held.entries c.push.new.self h c.loop-held.rest.now
    c.in-Some-next_entry.after.now c.loop-held.at c.loop-held.invariant
    c.in-Some-next_entry.ensures.step c.in_ok-push.ensures.added
    (h.place + length h.content.now) (omega (arith, place.0)) place.0

pub returns-in_default-clause-fault : goal.returns-in_default-clause-fault
returns-in_default-clause-fault c =
    λ _. magic_tested c.args.bytes.now c.as_slice.result.now _ c.as_slice.ensures
    c.in_default.ensures.cases

pub container_of-requires : goal.container_of-requires
container_of-requires c =
    prefix_placed c.args.bytes.now c.loop-held.entries c.loop-held.rest.now
    c.loop-held.invariant.prefix c.loop-held.invariant.placed

pub returns-clause-prefix : goal.returns-clause-prefix
returns-clause-prefix c =
    let made = c.in_ok-container_of.ensures in
    let whole : IsWholePrefix c.args.bytes.now (placed_entries c.loop-held.entries) = record {
      rest = c.loop-held.rest.now;
      prefix = c.loop-held.invariant.prefix;
      stuck = c.in_default-next_entry.ensures.step;
    } in (
      ap (λ (p : ParsedContainer). p.bytes) made,
      subst (λ (p : ParsedContainer). IsWholePrefix c.args.bytes.now p.entries) (sym made) whole,
    )

pub returns-in_err-push-clause-magic : goal.returns-in_err-push-clause-magic
returns-in_err-push-clause-magic c =
    λ none. never_both (magic_tested c.args.bytes.now c.as_slice.result.now _ c.as_slice.ensures
    c.in-Some.ensures.cases.0)
    none

pub returns-clause-magic : goal.returns-clause-magic
returns-clause-magic c =
    λ none. never_both (magic_tested c.args.bytes.now c.as_slice.result.now _ c.as_slice.ensures
    c.in-Some.ensures.cases.0)
    none

pub returns-in_err-container_of-clause-magic : goal.returns-in_err-container_of-clause-magic
returns-in_err-container_of-clause-magic c =
    λ none. never_both (magic_tested c.args.bytes.now c.as_slice.result.now _ c.as_slice.ensures
    c.in-Some.ensures.cases.0)
    none
