use Rattle.std.proofs.Common.{◌≡◌, [], Ok, Err, refl, sym, ap, ◌∙◌}
use Rattle.std.specs.Prelude.{codes}
use Rattle.semver.proofs.OnLiterals.{semver_on_literals}
use Rattle.semver.specs.Parse.{version_parts}
use Rattle.rec_sample.proofs.head.nextest_version.Goals as goal

reads : version_parts (codes "0.9.111") ≡ Ok (0, 9, 111, [], [])
unfolding semver_on_literals
reads = refl

pub unreachable-requires : goal.unreachable-requires
unreachable-requires c =
    let refused =
    c.parse.ensures.refused (c.in-Err-NotAVersion.is ∙ ap Err c.in-Err-NotAVersion.field-0-is) in
    let none = rw reads at refused in cc

pub returns-in-Ok : goal.returns-in-Ok
returns-in-Ok c =
    let read = sym reads ∙ c.in-Ok.ensures.ok in cc
