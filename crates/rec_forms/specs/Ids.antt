-- The values and forms of run numbers and versions.
use Rattle.std.specs.List.{All}
use Rattle.std.specs.Prelude.{◌≡◌, ◌<◌, ℕ, List, length, Option, option_and_then}
use Rattle.std.specs.Result.{result_ok}
use Rattle.semver.specs.Identifiers.{parts_text}
use Rattle.semver.specs.Parse.{Parts, version_parts}
use Rattle.serde_json.specs.Data.{Data, string}
use Rattle.serde_json.specs.Find.{as_str}
use Rattle.uuid.specs.Text.{lower, hyphenated_text, parsed}

abbrev pub uuid_value : List ℕ → Data
uuid_value u = string (hyphenated_text lower u)

-- any of the text forms of a uuid
unfoldable pub uuid_form : Data → Option (List ℕ)
uuid_form d = option_and_then parsed (as_str d)

-- sixteen bytes
pub record IsUuid (u : List ℕ) : Type 0 where
  pub size : length u ≡ 16
  pub bytes : All (λ b. b < 256) u

abbrev pub version_value : Parts → Data
version_value p = string (parts_text p)

unfoldable pub version_form : Data → Option Parts
version_form d = option_and_then (λ s. result_ok (version_parts s)) (as_str d)
