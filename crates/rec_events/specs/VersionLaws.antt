-- What is read as a version is one.
use Rattle.std.specs.Prelude.{◌≡◌, ℕ, List, Ok}
use Rattle.semver.proofs.Grammar.{version_parts-sound}
use Rattle.semver.specs.Parse.{Parts, version_parts}
use Rattle.rec_events.specs.Versions.{IsVersion}

pub IsVersion-read : (text : List ℕ) (p : Parts) → version_parts text ≡ Ok p → IsVersion p
IsVersion-read text p h = rw (version_parts-sound text p h).0 h
