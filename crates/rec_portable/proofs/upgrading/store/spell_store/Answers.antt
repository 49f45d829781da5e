use Rattle.std.proofs.Common.{inr, refl, arith, map}
use Rattle.rec_container.proofs.Lengths.{content_bytes-below}
use Rattle.rec_container.specs.NamedContents.{entry_of}
use Rattle.rec_portable.proofs.upgrading.store.spell_store.Goals as goal

pub returns-in_default-contents_length-clause-err :
    goal.returns-in_default-contents_length-clause-err
returns-in_default-contents_length-clause-err c =
    let below = content_bytes-below (map entry_of c.args.contents.now) in
    inr (refl, λ short. c.in_default-contents_length.ensures (omega (arith, below, short)))
