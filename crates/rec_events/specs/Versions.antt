-- What a version is, beside its numbers and identifiers.
use Rattle.std.specs.Prelude.{◌≡◌, Ok}
use Rattle.semver.specs.Identifiers.{parts_text}
use Rattle.semver.specs.Parse.{Parts, version_parts}

-- these are the parts that their own text reads as
abbrev pub IsVersion : Parts → Type 0
IsVersion p = version_parts (parts_text p) ≡ Ok p
