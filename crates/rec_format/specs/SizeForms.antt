-- The values and forms of sizes.
use Rattle.std.specs.Prelude.{◌^◌, ◌<◌, [], ◌∷◌, Option, Some, option_map, codes}
use Rattle.serde_json.specs.Data.{Data}
use Rattle.serde_json.specs.Find.{as_object}
use Rattle.rec_forms.specs.Numbers.{u64_form}
use Rattle.rec_forms.specs.Shape.{◌>>=◌, natural, field, struct, required, defaulted}
use Rattle.rec_format.specs.declared.sizes.ComponentSizes.{ComponentSizes}
use Rattle.rec_format.specs.declared.sizes.ComponentSizesFormat.{ComponentSizesFormat}
use Rattle.rec_format.specs.declared.sizes.RecordedSizes.{RecordedSizes}
use Rattle.rec_format.specs.declared.sizes.RecordedSizesFormat.{RecordedSizesFormat}
use Rattle.rec_format.specs.Sizes.{component_format, component_of, sizes_format, sizes_of}

abbrev pub component_format_value : ComponentSizesFormat → Data
component_format_value s = struct (
    field (codes "compressed") (natural s.compressed)
    ∷ field (codes "uncompressed") (natural s.uncompressed)
    ∷ field (codes "entries") (natural s.entries)
    ∷ [])

unfoldable pub component_format_form : Data → Option ComponentSizesFormat
component_format_form d = do
  ms ← as_object d
  compressed ← required u64_form (codes "compressed") ms
  uncompressed ← required u64_form (codes "uncompressed") ms
  entries ← defaulted 0 u64_form (codes "entries") ms
  Some (record { compressed = compressed; uncompressed = uncompressed; entries = entries })

pub record IsComponentFormat (s : ComponentSizesFormat) : Type 0 where
  pub compressed : s.compressed < 2 ^ 64
  pub uncompressed : s.uncompressed < 2 ^ 64
  pub entries : s.entries < 2 ^ 64

abbrev pub sizes_format_value : RecordedSizesFormat → Data
sizes_format_value s =
    struct (field (codes "log") (component_format_value s.log)
    ∷ field (codes "store") (component_format_value s.store) ∷ [])

unfoldable pub sizes_format_form : Data → Option RecordedSizesFormat
sizes_format_form d = do
  ms ← as_object d
  log ← required component_format_form (codes "log") ms
  store ← required component_format_form (codes "store") ms
  Some (record { log = log; store = store })

pub record IsSizesFormat (s : RecordedSizesFormat) : Type 0 where
  pub log : IsComponentFormat s.log
  pub store : IsComponentFormat s.store

-- sizes stand in JSON as their format does
abbrev pub component_value : ComponentSizes → Data
component_value s = component_format_value (component_format s)

abbrev pub component_form : Data → Option ComponentSizes
component_form d = option_map component_of (component_format_form d)

abbrev pub IsComponent : ComponentSizes → Type 0
IsComponent s = IsComponentFormat (component_format s)

abbrev pub sizes_value : RecordedSizes → Data
sizes_value s = sizes_format_value (sizes_format s)

abbrev pub sizes_form : Data → Option RecordedSizes
sizes_form d = option_map sizes_of (sizes_format_form d)

abbrev pub AreSizes : RecordedSizes → Type 0
AreSizes s = IsSizesFormat (sizes_format s)
