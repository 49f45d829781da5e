use Rattle.std.proofs.Common.{◌≡◌, ◌+◌, ◌<◌, ◌^◌, length, map, sym, ap, subst, ◌∙◌, SomeIff, arith}
use Rattle.rec_container.proofs.ContentsLeft.{left, left_all, left_none, length-left, nothing}
use Rattle.rec_container.proofs.Lengths.{length-spell}
use Rattle.rec_container.proofs.named_contents.container_length.Goals as goal
use Rattle.rec_container.specs.NamedContents.{container_of, entry_of}

pub loop-content-init : goal.loop-content-init
loop-content-init c = record {
  fits = omega arith;
  whole =
      ap (λ l. 9 + length l) (left_all entry_of c.args.contents.now)
      ∙ sym (length-spell (map entry_of c.args.contents.now));
}

pub loop-content-preserved : goal.loop-content-preserved
loop-content-preserved c =
    let next = length-left entry_of c.args.contents.now c.loop-content.content-index nothing
    c.loop-content-test.true in
    record {
      fits = omega (arith, c.in_ok-length.ensures);
      whole = omega (arith, c.loop-content.invariant.whole, next, c.in_ok-length.ensures);
    }

pub returns-in_err-length : goal.returns-in_err-length
returns-in_err-length c =
    let next = length-left entry_of c.args.contents.now c.loop-content.content-index nothing
    c.loop-content-test.true in
    let is : length (container_of c.args.contents.now) ≡ c.loop-content.length
    + (length (left entry_of c.args.contents.now c.loop-content.content-index)) =
    sym c.loop-content.invariant.whole in
    subst (λ o. SomeIff o (length (container_of c.args.contents.now) < 2 ^ 64)
    (length (container_of c.args.contents.now)))
    (sym c.from_residual.ensures) (λ (short : length (container_of c.args.contents.now) < 2 ^ 64).
    c.in_err-length.ensures (omega (arith, is, next, short)))

pub returns : goal.returns
returns c =
    let none = ap length (left_none entry_of c.args.contents.now c.loop-content.content-index
    c.loop-content-test.false) in (
      omega (arith, c.loop-content.invariant.whole, c.loop-content.invariant.fits, none),
      omega (arith, c.loop-content.invariant.whole, none),
    )
