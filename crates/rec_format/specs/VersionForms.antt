-- The values and forms of versions.
use Rattle.std.specs.Prelude.{ℕ, ◌^◌, ◌<◌, [], ◌∷◌, Option, Some, codes}
use Rattle.serde_json.specs.Data.{Data}
use Rattle.serde_json.specs.Find.{as_object}
use Rattle.rec_forms.specs.Numbers.{u32_form}
use Rattle.rec_forms.specs.Shape.{◌>>=◌, natural, field, struct, required}
use Rattle.rec_format.specs.declared.versions.PortableRecordingFormatVersion.{
  PortableRecordingFormatVersion,
}
use Rattle.rec_format.specs.declared.versions.StoreFormatVersion.{StoreFormatVersion}

-- a version number is its number
abbrev pub IsNumber : ℕ → Type 0
IsNumber n = n < 2 ^ 32

abbrev pub store_version_value : StoreFormatVersion → Data
store_version_value v =
    struct (field (codes "major") (natural v.major) ∷ field (codes "minor") (natural v.minor) ∷ [])

unfoldable pub store_version_form : Data → Option StoreFormatVersion
store_version_form d = do
  ms ← as_object d
  major ← required u32_form (codes "major") ms
  minor ← required u32_form (codes "minor") ms
  Some (record { major = major; minor = minor })

pub record IsStoreVersion (v : StoreFormatVersion) : Type 0 where
  pub major : IsNumber v.major
  pub minor : IsNumber v.minor

abbrev pub portable_version_value : PortableRecordingFormatVersion → Data
portable_version_value v =
    struct (field (codes "major") (natural v.major) ∷ field (codes "minor") (natural v.minor) ∷ [])

unfoldable pub portable_version_form : Data → Option PortableRecordingFormatVersion
portable_version_form d = do
  ms ← as_object d
  major ← required u32_form (codes "major") ms
  minor ← required u32_form (codes "minor") ms
  Some (record { major = major; minor = minor })

pub record IsPortableVersion (v : PortableRecordingFormatVersion) : Type 0 where
  pub major : IsNumber v.major
  pub minor : IsNumber v.minor
