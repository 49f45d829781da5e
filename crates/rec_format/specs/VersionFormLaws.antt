-- Versions read back, and are writable.
use Rattle.std.specs.Prelude.{◌≡◌, Some, refl, codes}
use Rattle.rec_forms.specs.GivesWellFormed.{GivesWellFormed}
use Rattle.rec_forms.specs.Members.{get_member-members_of}
use Rattle.rec_forms.specs.NumberLaws.{u32_back, u32_writable, u32_well_formed}
use Rattle.rec_forms.specs.Numbers.{u32_form}
use Rattle.rec_forms.specs.WellFormedLaws.{object_then, required_then}
use Rattle.rec_forms.specs.Writable.{IsWritable, struct_writable}
use Rattle.rec_format.specs.declared.versions.PortableRecordingFormatVersion.{
  PortableRecordingFormatVersion,
}
use Rattle.rec_format.specs.declared.versions.StoreFormatVersion.{StoreFormatVersion}
use Rattle.rec_format.specs.VersionForms.{store_version_value, store_version_form}
use Rattle.rec_format.specs.VersionForms.{IsStoreVersion, portable_version_value}
use Rattle.rec_format.specs.VersionForms.{portable_version_form, IsPortableVersion}

pub store_version_back : (v : StoreFormatVersion) → IsStoreVersion v
    → store_version_form (store_version_value v) ≡ Some v
unfolding store_version_form
store_version_back v h = simp (get_member-members_of, u32_back _ h.major, u32_back _ h.minor)

pub store_version_writable : (v : StoreFormatVersion) → IsStoreVersion v
    → IsWritable 1 (store_version_value v)
store_version_writable v h =
    struct_writable _ refl (u32_writable v.major h.major, (u32_writable v.minor h.minor, tt))

pub portable_version_back : (v : PortableRecordingFormatVersion) → IsPortableVersion v
    → portable_version_form (portable_version_value v) ≡ Some v
unfolding portable_version_form
portable_version_back v h = simp (get_member-members_of, u32_back _ h.major, u32_back _ h.minor)

pub portable_version_writable : (v : PortableRecordingFormatVersion) → IsPortableVersion v
    → IsWritable 1 (portable_version_value v)
portable_version_writable v h =
    struct_writable _ refl (u32_writable v.major h.major, (u32_writable v.minor h.minor, tt))

-- ---- what is read is well-formed

pub store_version_well_formed : GivesWellFormed IsStoreVersion store_version_form
unfolding store_version_form
store_version_well_formed = record {
  each = λ d.
      object_then d _ (λ ms.
      required_then u32_form (codes "major") ms _ u32_well_formed (λ major major_is.
      required_then u32_form (codes "minor") ms _ u32_well_formed (λ minor minor_is.
      record { is = record { major = major_is; minor = minor_is } })));
}

pub portable_version_well_formed : GivesWellFormed IsPortableVersion portable_version_form
unfolding portable_version_form
portable_version_well_formed = record {
  each = λ d.
      object_then d _ (λ ms.
      required_then u32_form (codes "major") ms _ u32_well_formed (λ major major_is.
      required_then u32_form (codes "minor") ms _ u32_well_formed (λ minor minor_is.
      record { is = record { major = major_is; minor = minor_is } })));
}
