-- Sizes and how they stand in JSON, field by field.
use Rattle.rec_format.specs.declared.sizes.ComponentSizes.{ComponentSizes}
use Rattle.rec_format.specs.declared.sizes.ComponentSizesFormat.{ComponentSizesFormat}
use Rattle.rec_format.specs.declared.sizes.RecordedSizes.{RecordedSizes}
use Rattle.rec_format.specs.declared.sizes.RecordedSizesFormat.{RecordedSizesFormat}

abbrev pub component_format : ComponentSizes → ComponentSizesFormat
component_format sizes = record {
  compressed = sizes.compressed;
  uncompressed = sizes.uncompressed;
  entries = sizes.entries;
}

abbrev pub component_of : ComponentSizesFormat → ComponentSizes
component_of format = record {
  compressed = format.compressed;
  uncompressed = format.uncompressed;
  entries = format.entries;
}

abbrev pub sizes_format : RecordedSizes → RecordedSizesFormat
sizes_format sizes =
    record { log = component_format sizes.log; store = component_format sizes.store }

abbrev pub sizes_of : RecordedSizesFormat → RecordedSizes
sizes_of format = record { log = component_of format.log; store = component_of format.store }

-- ---- of nothing

abbrev pub no_component : ComponentSizes
no_component = record { compressed = 0; uncompressed = 0; entries = 0 }

abbrev pub no_sizes : RecordedSizes
no_sizes = record { log = no_component; store = no_component }

abbrev pub no_component_format : ComponentSizesFormat
no_component_format = record { compressed = 0; uncompressed = 0; entries = 0 }

abbrev pub no_sizes_format : RecordedSizesFormat
no_sizes_format = record { log = no_component_format; store = no_component_format }
