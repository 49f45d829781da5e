-- Sizes read back, and are writable.
use Rattle.std.proofs.Common.{arith}
use Rattle.std.specs.Prelude.{◌≡◌, Some, refl, codes}
use Rattle.rec_forms.specs.GivesWellFormed.{GivesWellFormed}
use Rattle.rec_forms.specs.Members.{get_member-members_of}
use Rattle.rec_forms.specs.NumberLaws.{u64_back, u64_well_formed}
use Rattle.rec_forms.specs.Numbers.{u64_form}
use Rattle.rec_forms.specs.WellFormedLaws.{map_holds, object_then, required_then, defaulted_then}
use Rattle.rec_forms.specs.Writable.{IsWritable, struct_writable, natural_writable}
use Rattle.rec_format.specs.declared.sizes.ComponentSizes.{ComponentSizes}
use Rattle.rec_format.specs.declared.sizes.ComponentSizesFormat.{ComponentSizesFormat}
use Rattle.rec_format.specs.declared.sizes.RecordedSizes.{RecordedSizes}
use Rattle.rec_format.specs.declared.sizes.RecordedSizesFormat.{RecordedSizesFormat}
use Rattle.rec_format.specs.SizeForms.{component_format_value, component_format_form}
use Rattle.rec_format.specs.SizeForms.{IsComponentFormat, sizes_format_value, sizes_format_form}
use Rattle.rec_format.specs.SizeForms.{IsSizesFormat, component_value, component_form}
use Rattle.rec_format.specs.SizeForms.{IsComponent, sizes_value, sizes_form, AreSizes}
use Rattle.rec_format.specs.Sizes.{component_format, sizes_format, component_of, sizes_of}

pub component_format_back : (s : ComponentSizesFormat) → IsComponentFormat s
    → component_format_form (component_format_value s) ≡ Some s
unfolding component_format_form
component_format_back s h = simp (
  get_member-members_of,
  u64_back _ h.compressed,
  u64_back _ h.uncompressed,
  u64_back _ h.entries,
)

pub component_format_writable : (s : ComponentSizesFormat) → IsComponentFormat s
    → IsWritable 1 (component_format_value s)
component_format_writable s h =
    struct_writable _ refl (
      natural_writable s.compressed h.compressed,
      (natural_writable s.uncompressed h.uncompressed, (natural_writable s.entries h.entries, tt)),
    )

pub sizes_format_back : (s : RecordedSizesFormat) → IsSizesFormat s
    → sizes_format_form (sizes_format_value s) ≡ Some s
unfolding sizes_format_form
sizes_format_back s h =
    simp (get_member-members_of, component_format_back _ h.log, component_format_back _ h.store)

pub sizes_format_writable : (s : RecordedSizesFormat) → IsSizesFormat s
    → IsWritable 2 (sizes_format_value s)
sizes_format_writable s h =
    struct_writable _ refl
    (component_format_writable s.log h.log, (component_format_writable s.store h.store, tt))

pub component_back : (s : ComponentSizes) → IsComponent s
    → component_form (component_value s) ≡ Some s
component_back s h = rw (component_format_back (component_format s) h)

pub component_writable : (s : ComponentSizes) → IsComponent s → IsWritable 1 (component_value s)
component_writable s = component_format_writable (component_format s)

pub sizes_back : (s : RecordedSizes) → AreSizes s → sizes_form (sizes_value s) ≡ Some s
sizes_back s h = rw (sizes_format_back (sizes_format s) h)

pub sizes_writable : (s : RecordedSizes) → AreSizes s → IsWritable 2 (sizes_value s)
sizes_writable s = sizes_format_writable (sizes_format s)

-- ---- what is read is well-formed

pub component_format_well_formed : GivesWellFormed IsComponentFormat component_format_form
unfolding component_format_form
component_format_well_formed = record {
  each = λ d.
      object_then d _ (λ ms.
      required_then u64_form (codes "compressed") ms _ u64_well_formed (λ compressed compressed_is.
      required_then u64_form (codes "uncompressed") ms _ u64_well_formed
      (λ uncompressed uncompressed_is.
      defaulted_then u64_form (codes "entries") ms 0 _ (omega arith) u64_well_formed
      (λ entries entries_is.
      record {
        is = record {
          compressed = compressed_is;
          uncompressed = uncompressed_is;
          entries = entries_is;
        };
      }))));
}

pub sizes_format_well_formed : GivesWellFormed IsSizesFormat sizes_format_form
unfolding sizes_format_form
sizes_format_well_formed = record {
  each = λ d.
      object_then d _ (λ ms.
      required_then component_format_form (codes "log") ms _ component_format_well_formed
      (λ log log_is.
      required_then component_format_form (codes "store") ms _ component_format_well_formed
      (λ store store_is.
      record { is = record { log = log_is; store = store_is } })));
}

pub component_well_formed : GivesWellFormed IsComponent component_form
component_well_formed = record {
  each =
      λ d. map_holds component_of (component_format_form d) (component_format_well_formed.each d)
      (λ s is. is);
}

pub sizes_well_formed : GivesWellFormed AreSizes sizes_form
sizes_well_formed = record {
  each =
      λ d. map_holds sizes_of (sizes_format_form d) (sizes_format_well_formed.each d) (λ s is. is);
}
