-- Versions of the formats: which is read by which, and which a text names.
use Rattle.std.specs.Fmt.{decimal}
use Rattle.std.specs.List.{position_or_len, before_first, after_first}
use Rattle.std.specs.Prelude.{ℕ, ◌^◌, Bool, not, ◌&&◌, if◌then◌else◌, nat_lt}
use Rattle.std.specs.Prelude.{nat_eq, List, ◌∷◌, ◌++◌, length, Option, Some}
use Rattle.std.specs.Prelude.{None, option_and_then, option_map, Result, Ok, Err}
use Rattle.std.specs.Str.Parse.{digits_value}
use Rattle.std.specs.Str.{all_ascii_digits}
use
    Rattle.rec_format.specs.declared.incompatibility.PortableRecordingVersionIncompatibility.TheVariants
    as portable
use Rattle.rec_format.specs.declared.incompatibility.PortableRecordingVersionIncompatibility.{
  PortableRecordingVersionIncompatibility,
}
use Rattle.rec_format.specs.declared.incompatibility.Release.{Release}
use Rattle.rec_format.specs.declared.incompatibility.StoreVersionIncompatibility.TheVariants
    as store
use Rattle.rec_format.specs.declared.incompatibility.StoreVersionIncompatibility.{
  StoreVersionIncompatibility,
}
use Rattle.rec_format.specs.declared.incompatibility.TooOldRecordingGuidance.TheVariants.{
  Discard,
  Unknown,
}
use Rattle.rec_format.specs.declared.incompatibility.TooOldRecordingGuidance.{
  TooOldRecordingGuidance,
}
use Rattle.rec_format.specs.declared.versions.PortableRecordingFormatVersion.{
  PortableRecordingFormatVersion,
}
use Rattle.rec_format.specs.declared.versions.StoreFormatVersion.{StoreFormatVersion}

-- a dot between the two numbers
abbrev pub version_text : ℕ → ℕ → List ℕ
version_text major minor = decimal major ++ 46 ∷ decimal minor

abbrev pub release : ℕ → ℕ → ℕ → Release
release major minor patch = record { major = major; minor = minor; patch = patch }

-- what to do with a recording whose major version is too old
abbrev pub guidance : ℕ → TooOldRecordingGuidance
guidance major =
    if nat_eq major 1 then Discard (release 0 9 130)
    else if nat_eq major 2 then Discard (release 0 9 149) else Unknown

-- Ok where a store of the recorded version is read by a program that supports the other
abbrev pub store_readable : StoreFormatVersion → StoreFormatVersion
    → Result (Unit {0}) StoreVersionIncompatibility
store_readable recorded supported =
    if nat_lt recorded.major supported.major
    then Err (store.RecordingTooOld recorded.major supported.major (guidance recorded.major))
    else if nat_lt supported.major recorded.major
    then Err (store.RecordingTooNew recorded.major supported.major)
    else if nat_lt supported.minor recorded.minor
    then Err (store.MinorTooNew recorded.minor supported.minor)
    else Ok tt

-- the same of a bundle
abbrev pub portable_readable : PortableRecordingFormatVersion → PortableRecordingFormatVersion
    → Result (Unit {0}) PortableRecordingVersionIncompatibility
portable_readable recorded supported =
    if not (nat_eq recorded.major supported.major)
    then Err (portable.MajorMismatch recorded.major supported.major)
    else if nat_lt supported.minor recorded.minor
    then Err (portable.MinorTooNew recorded.minor supported.minor)
    else Ok tt

-- the number that one or more decimal digits write, where it fits 32 bits
abbrev pub number_of : List ℕ → Option ℕ
number_of text =
    if all_ascii_digits text && nat_lt 0 (length text) && nat_lt (digits_value 10 text) (2 ^ 32)
    then Some (digits_value 10 text)
    else None

abbrev pub is_dot : ℕ → Bool
is_dot byte = nat_eq byte 46

-- the version of two numbers with a dot between them
abbrev pub version_of : List ℕ → Option StoreFormatVersion
version_of text =
    if nat_lt (position_or_len is_dot text) (length text)
    then option_and_then (λ major. option_map (λ minor. record { major = major; minor = minor })
    (number_of (after_first is_dot text)))
    (number_of (before_first is_dot text))
    else None

-- the version of the stores that are written
abbrev pub store_version : StoreFormatVersion
store_version = record { major = 3; minor = 1 }

-- the version of the bundles that are written
abbrev pub portable_version : PortableRecordingFormatVersion
portable_version = record { major = 1; minor = 1 }

-- the version that a text names, and the supported one where there is no text
abbrev pub store_version_of : Option (List ℕ) → Option StoreFormatVersion
store_version_of None = Some store_version
store_version_of (Some text) = version_of text
