-- Which stores are read by what writes today's, and what is said of those that are too old.
use Rattle.std.proofs.Common.{◌≡◌, ◌≤◌, ◌<◌, ℕ, zero, suc, nat_lt, true, Ok, Err, refl, arith}
use Rattle.std.proofs.lemmas.Bool.Decides.{nat_tests}
use Rattle.rec_format.specs.declared.incompatibility.StoreVersionIncompatibility.TheVariants.{
  MinorTooNew,
}
use Rattle.rec_format.specs.declared.incompatibility.TooOldRecordingGuidance.TheVariants.{Unknown}
use Rattle.rec_format.specs.Versions.{guidance, store_readable, store_version}

pub older_read : (minor : ℕ) → minor ≤ 1
    → store_readable (record { major = 3; minor = minor }) store_version ≡ Ok tt
older_read zero h = refl
older_read (suc zero) h = refl
older_read (suc (suc n)) h = absurd (omega arith)

pub newer_refused : (minor : ℕ) → 1 < minor
    → store_readable (record { major = 3; minor = minor }) store_version ≡ Err (MinorTooNew minor 1)
newer_refused minor h =
    let newer : nat_lt 1 minor ≡ true = grind (arith, nat_tests) in rw newer refl

pub guided : (major : ℕ) → 0 < major → major < store_version.major → guidance major ≡ Unknown → ⊥
guided zero above below h = absurd (omega arith)
guided (suc zero) above below h = cc
guided (suc (suc zero)) above below h = cc
guided (suc (suc (suc n))) above below h = absurd (omega arith)
