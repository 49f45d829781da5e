use Rattle.std.proofs.Common.{◌≡◌, ◌+◌, ◌<◌, ◌^◌, ℕ, length, map, subst, SomeIff, arith}
use Rattle.rec_container.proofs.Lengths.{length-spell-push}
use Rattle.rec_container.proofs.named_contents.nested_length.Goals as goal
use Rattle.rec_container.specs.Container.{spell}
use Rattle.rec_container.specs.NamedContents.{container_of, entry_of, nested}
use Rattle.rec_container.specs.Writing.{entry_named}

pub returns : goal.returns
returns g c =
    let longer = length-spell-push (map entry_of c.args.contents.now)
    (entry_named c.args.name.now (spell c.args.inner.now.entries)) in
    let size : c.in_ok-length.length ≡ length (container_of c.args.contents.now) =
    c.in_ok-length.ensures.1 in
    let is : c.in_ok-length.length + (11 + length c.args.name.now + c.sizes.result.compressed)
    ≡ length (nested c.args.contents.now c.args.name.now c.args.inner.now.entries) =
    omega (arith, longer, size, c.sizes.ensures.sizes.compressed) in
    subst (λ (n : ℕ). SomeIff c.grown.result (n < 2 ^ 64) n) is c.grown.ensures
