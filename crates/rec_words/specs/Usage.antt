-- What the program prints about its version.
use Rattle.std.specs.Prelude.{ℕ, List, ◌++◌, codes}
use Rattle.rec_format.specs.Versions.{portable_version, store_version, version_text}

-- its version, and those of the formats that it writes, a line each
abbrev pub versions_text : List ℕ
versions_text =
    codes "rezovamy 0.1.0\nportable recording format "
    ++ (version_text portable_version.major portable_version.minor
    ++ (codes "\nstore format "
    ++ (version_text store_version.major store_version.minor ++ codes "\n")))
