use Rattle.std.proofs.Common.{◌≡◌, ◌∙◌, ◌+◌, ◌<◌, ◌^◌, ap, pos, ◌-ℤ◌}
use Rattle.std.proofs.Common.{unsigned_abs, subst, arith, sym, refl, to_z, of_z}
use mir.Syntax.{w128}
use Rattle.std.proofs.lemmas.Int.{ints, to_z-of_z}
use Rattle.std.specs.Prelude.{◌<ℤ◌, ◌≤ℤ◌}
use Rattle.rec_slots.proofs.PassedTime.{fallen, falls-here, gap-is, has-room, no-time}
use Rattle.rec_slots.proofs.PassedTime.{none-from, room-fits, some-is, time-passes}
use Rattle.rec_slots.proofs.times.Times.pass.Goals as goal

pub returns-then-not-goes_on : goal.returns-then-not-goes_on
returns-then-not-goes_on c =
    λ events n is goes_on has.
    no-time events n c.args.self.now (sym goes_on ∙ c.if-not-goes_on.true) has

pub returns-then-is_some : goal.returns-then-is_some
returns-then-is_some c = λ events n is goes_on has.
    let fell = some-is c.args.self.now.fell (sym c.is_some.ensures ∙ c.if-is_some.true) in
    fallen events n fell.0 c.args.self.now fell.1 has

pub returns-then-beat-self : goal.returns-then-beat-self
returns-then-beat-self c = λ events n is goes_on has.
    let none = none-from c.args.self.now.fell (sym c.is_some.ensures ∙ c.if-is_some.false) in
    let lt : c.args.beat.at <ℤ c.args.self.now.last = grind (arith, ints, to_z-of_z) in
    falls-here events n c.args.beat c.args.self.now _ is (sym goes_on ∙ c.if-not-goes_on.false)
    none lt refl refl has

pub pass-requires-clause-room : goal.pass-requires-clause-room
pass-requires-clause-room c =
    let none = none-from c.args.self.now.fell (sym c.is_some.ensures ∙ c.if-is_some.false) in
    let le : c.args.self.now.last ≤ℤ c.args.beat.at = grind (arith, ints, to_z-of_z) in
    let r = c.requires in
    let room = has-room r.events r.n c.args.self.now (sym r.running_is ∙ c.if-not-goes_on.false)
    none r.timed in
    let fits = room-fits (c.args.self.now.clocks.paused + c.args.self.now.clocks.active)
    c.args.beat.at c.args.self.now.last room.0 room.1 r.beat_is.near le room.2 in
    let at : to_z w128 (of_z w128 c.args.beat.at) ≡ c.args.beat.at = grind (arith, to_z-of_z) in
    let last : to_z w128 (of_z w128 c.args.self.now.last) ≡ c.args.self.now.last =
    grind (arith, to_z-of_z) in
    let gap : c.abs_diff.result ≡ unsigned_abs (c.args.beat.at -ℤ c.args.self.now.last) =
    c.abs_diff.ensures ∙ (λ i. unsigned_abs (at i -ℤ last i)) in
    subst (λ g. (c.args.self.now.clocks.paused + c.args.self.now.clocks.active) + g < 2 ^ 128)
    (sym gap) fits

pub returns : goal.returns
returns c = λ events n is goes_on has.
    let none = none-from c.args.self.now.fell (sym c.is_some.ensures ∙ c.if-is_some.false) in
    let le : c.args.self.now.last ≤ℤ c.args.beat.at = grind (arith, ints, to_z-of_z) in
    let at : to_z w128 (of_z w128 c.args.beat.at) ≡ c.args.beat.at = grind (arith, to_z-of_z) in
    let last : to_z w128 (of_z w128 c.args.self.now.last) ≡ c.args.self.now.last =
    grind (arith, to_z-of_z) in
    let gap : c.abs_diff.result ≡ unsigned_abs (c.args.beat.at -ℤ c.args.self.now.last) =
    c.abs_diff.ensures ∙ (λ i. unsigned_abs (at i -ℤ last i)) in
    let p = c.pass.ensures in
    time-passes events n c.args.beat c.args.self.now _ c.abs_diff.result is
    (sym goes_on ∙ c.if-not-goes_on.false) none le
    (ap pos gap ∙ gap-is c.args.beat.at c.args.self.now.last le)
    refl p.clocks p.same p.paused p.active p.times has
