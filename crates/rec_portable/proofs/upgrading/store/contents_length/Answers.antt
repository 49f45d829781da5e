use Rattle.std.proofs.Common.{◌≡◌, ◌+◌, ◌<◌, ◌^◌, drop, length, map, sym, subst, SomeIff, arith}
use Rattle.rec_container.specs.Container.{content_bytes}
use Rattle.rec_container.specs.NamedContents.{entry_of}
use Rattle.rec_portable.proofs.JudgedSizes.{bytes_next, no_bytes}
use Rattle.rec_portable.proofs.upgrading.store.contents_length.Goals as goal

pub loop-content-preserved : goal.loop-content-preserved
loop-content-preserved c =
    let next =
    bytes_next 0 c.args.contents.now c.loop-content.content-index c.loop-content-test.true in
    record {
      fits = omega (arith, c.in_ok-length.ensures);
      whole = omega (arith, c.loop-content.invariant.whole, next, c.in_ok-length.ensures);
    }

pub returns-in_err-length : goal.returns-in_err-length
returns-in_err-length c =
    let all = content_bytes (map entry_of c.args.contents.now) in
    let next =
    bytes_next 0 c.args.contents.now c.loop-content.content-index c.loop-content-test.true in
    let is : all ≡ c.loop-content.length + content_bytes
    (map entry_of (drop c.loop-content.content-index c.args.contents.now)) =
    sym c.loop-content.invariant.whole in
    subst (λ o. SomeIff o (all < 2 ^ 64) all) (sym c.from_residual.ensures)
    (λ (short : all < 2 ^ 64). c.in_err-length.ensures (omega (arith, is, next, short)))

pub returns : goal.returns
returns c =
    let none =
    no_bytes c.args.contents.now c.loop-content.content-index c.loop-content-test.false in (
      omega (arith, c.loop-content.invariant.whole, c.loop-content.invariant.fits, none),
      omega (arith, c.loop-content.invariant.whole, none),
    )
