use Rattle.std.proofs.Common.{◌≡◌, ◌≤◌, ◌∙◌, sym, subst, arith, length}
use Rattle.std.proofs.Common.{Option, List, ℕ, Some, None, true, false}
use Rattle.std.specs.Str.{bytes_eq}
use Rattle.rec_portable.proofs.Places.{content_here, content_later, content_missing}
use Rattle.rec_portable.proofs.window.Window.of_entry.Goals as goal
use Rattle.rec_portable.specs.declared.window.Window.{Window}
use Rattle.rec_portable.specs.Windows.{IsWindowOf}

pub returns-then-eq : goal.returns-then-eq
returns-then-eq c =
    let entries = c.args.entries.now in
    let content = c.bytes.result.now in
    let same : bytes_eq c.args.name.now c.name.result.now ≡ true =
    sym c.eq.ensures ∙ c.if-eq.true in
    let found = content_here entries.entries c.loop-i.i c.args.name.now c.name.result.now content
    c.loop-i.invariant c.name.ensures c.bytes.ensures same in
    let there = c.place.ensures.stands content c.bytes.ensures in
    let w : Window = record { at = c.place.result; len = length content } in
    subst (λ (o : Option (List ℕ)). IsWindowOf entries.bytes o (Some w)) (sym found)
    (there.within, there.stands)

pub loop-i-preserved : goal.loop-i-preserved
loop-i-preserved c =
    let different : bytes_eq c.args.name.now c.name.result.now ≡ false =
    sym c.eq.ensures ∙ c.if-eq.false in
    content_later c.args.entries.now.entries c.loop-i.i c.args.name.now c.name.result.now
    c.loop-i.invariant c.name.ensures different

pub returns : goal.returns
returns c =
    let entries = c.args.entries.now in
    let past : length entries.entries ≤ c.loop-i.i =
    omega (arith, c.loop-i-test.false, c.len-i-end.ensures) in
    subst (λ (o : Option (List ℕ)). IsWindowOf entries.bytes o None)
    (sym (content_missing entries.entries c.loop-i.i c.args.name.now c.loop-i.invariant past)) tt
